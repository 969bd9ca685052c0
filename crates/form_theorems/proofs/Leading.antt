-- No rule is led by more comments than the text has lines, and so by at most one more than it has bytes.
use Prim.Native.Nat.{ℕ, ◌+◌, ◌≤◌}
use native.Mathlib.Omega.{arith}
use mathlib.Core.Bool.{Bool, true, false}
use mathlib.Core.List.{List, [], ◌∷◌, ◌++◌}
use Rattle.std.specs.Prelude.{Option, None, Some}
use lib.ListN.{length, length-append, length-map}
use Rattle.chars.specs.Utf8.{decode}
use Rattle.lexer.specs.Tokens.{Span, Token, tokens}
use Rattle.lexer.proofs.Writes.{tokens_of_bytes}
use Rattle.language.specs.Machine.{Located, Rule}
use Rattle.language.specs.Lines.{RawSymbol, RawTransition, Line, blank_line, comment_line, item_line, error_line, Row, Ending, line_feed, goes_by, remark, ending_of, in_front, rows, line_of, covering, lines, read_lines}
use Rattle.language.specs.Assembly.{items, blank_of, RuleLine, Body, add_header, add_rule, at_end, leads, attach_item, attach, body_of, kept, choices, rule_of, dressed, expand, expand_all}
use Rattle.language.proofs.Columns.{parts}
use Rattle.language.specs.Infer.{machine_of}
use Rattle.language.proofs.Every.{Every, every_append, every_any, every_map}
use Rattle.language.proofs.Counts.{kept_every}
use Rattle.form_theorems.specs.Read.{machine_in}

module _ {P : Type 0} (n : ℕ) where
  abbrev Few : RuleLine P → Type 0
  Few l = length l.leading ≤ n

  -- ---- lines

  leads_few : (seen : Bool) (old block : List (Located P (List ℕ))) → length old + length block ≤ n → length (leads seen old block) ≤ n
  unfolding leads
  leads_few true old block h = omega (arith, length-append old block)
  leads_few false old block h = omega arith

  item_few : (o : Option (RawTransition P)) (seen : Bool) (old block : List (Located P (List ℕ))) (p : P) (c : Option (Located P (List ℕ))) (b : Body P)
      → length old + length block ≤ n → Every Few b.rules → Every Few (attach_item o seen old block p c b).rules
  unfolding attach_item add_header add_rule
  item_few None seen old block p c b h k = k
  item_few (Some r) seen old block p c b h k = (leads_few seen old block h, k)

  end_few : (seen : Bool) (cs : List (Located P (List ℕ))) → Every Few (at_end seen cs).rules
  unfolding at_end
  end_few true cs = tt
  end_few false cs = tt

  attach_few : (seen : Bool) (old block : List (Located P (List ℕ))) (ls : List (Line P)) → length old + length block + length ls ≤ n → Every Few (attach seen old block ls).rules
  unfolding attach
  attach_few seen old block [] h = end_few seen (old ++ block)
  attach_few seen old block (blank_line ∷ ls) h = attach_few seen (old ++ block) [] ls (omega (arith, length-append old block))
  attach_few seen old block (comment_line c ∷ ls) h = attach_few seen old (block ++ c ∷ []) ls (omega (arith, length-append block (c ∷ [])))
  attach_few seen old block (error_line m p ∷ ls) h = attach_few true [] [] ls (omega arith)
  attach_few seen old block (item_line i p c ∷ ls) h = item_few (parts i).rule seen old block p c (attach true [] [] ls) (omega arith) (attach_few true [] [] ls (omega arith))

  -- ---- rules

  abbrev Led : Rule P → Type 0
  Led r = length r.leading ≤ n

  dressed_few : (b : ℕ) (l : RuleLine P) (cs : List (List (Located P RawSymbol))) → Few l → Every Led (dressed b l cs)
  unfolding dressed rule_of
  dressed_few b l [] h = tt
  dressed_few b l (c ∷ cs) h = (h, every_map (λ c. Unit {0}) Led (rule_of b l None []) (λ c _. omega arith) cs (every_any (λ c. Unit {0}) (λ c. tt) cs))

  expand_few : (b : ℕ) (ls : List (RuleLine P)) → Every Few ls → Every Led (expand_all b ls)
  unfolding expand_all expand
  expand_few b [] h = tt
  expand_few b (l ∷ ls) h = every_append Led (expand b l) (expand_all b ls) (dressed_few b l (choices l.raw.read) h.0) (expand_few b ls h.1)

  machine_few : (ls : List (Line P)) → length ls ≤ n → Every Led (machine_of ls).rules
  unfolding machine_of body_of
  machine_few ls h =
      expand_few (blank_of (items ls)) (kept 0 (body_of ls).rules) (kept_every Few Few (λ m l k e. k) 0 (body_of ls).rules (attach_few false [] [] ls (omega arith)))

-- ---- texts

front_few : {P : Type 0} (e : Ending) (t : Token P) (rs : List (Row P)) → length (in_front e t rs) ≤ length rs + 1
unfolding in_front
front_few line_feed t rs = omega arith
front_few goes_by t [] = omega arith
front_few goes_by t (r ∷ rs) = omega arith
front_few (remark s) t [] = omega arith
front_few (remark s) t (r ∷ rs) = omega arith

rows_few : {P : Type 0} (ts : List (Token P)) → length (rows ts) ≤ length ts
unfolding rows
rows_few [] = omega arith
rows_few (t ∷ ts) = omega (arith, front_few (ending_of t.kind) t (rows ts), rows_few ts)

lines_few : (t : List ℕ) → length (read_lines (decode t)) ≤ length t + 1
unfolding read_lines lines
lines_few t = omega (arith, length-map (rows (tokens (decode t))) (line_of covering), rows_few (tokens (decode t)), tokens_of_bytes t)

pub leading_few : (t : List ℕ) → Every (λ (r : Rule Span). length r.leading ≤ length t + 1) (machine_in t).rules
leading_few t = machine_few (length t + 1) (read_lines (decode t)) (lines_few t)
