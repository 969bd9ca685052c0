-- The rules of a text, and what they cost, by its rows of tokens.
use Prim.Native.Nat.{ℕ, suc, ◌+◌, ◌*◌, ◌≤◌}
use native.Mathlib.Omega.{arith}
use mathlib.Core.Bool.{Bool, true, false}
use mathlib.Core.List.{List, [], ◌∷◌, ◌++◌, map}
use Rattle.std.specs.Prelude.{Option, None, Some}
use mathlib.Core.Path.{◌≡◌, refl}
use Rattle.lexer.specs.Tokens.{Token}
use Rattle.language.specs.Machine.{Located}
use Rattle.language.specs.Parser.{Result, ok, fail, Parser, then, ◌>>=◌, give, unexpected, expect, set}
use Rattle.language.specs.Lines.{RawTransition, Item, transition_item, Line, blank_line, comment_line, item_line, error_line, word_in, Keyword, machine_word, kind_word, input_word, output_word, tapes_word, states_word, sigma_word, gamma_word, blank_word, start_word, final_word, delta_word, keywords, kinds, outputs, string, numeral, output, state, symbol, choice, transition, item_of, item, Row, Ending, line_feed, goes_by, remark, ending_of, in_front, rows, last_place, finished, empty_line, line_from, line_of, lines}
use Rattle.language.specs.Assembly.{RuleLine, Body, attach_item, attach, body_of, add_header, add_rule, at_end}
use Rattle.language.proofs.Columns.{parts}
use Rattle.longest.proofs.Weights.{weight, weigh, weight_least}
use Rattle.longest.proofs.ParseCosts.{spare, Spent, transition_spends, view_spends, key_weight, keyword_weighs}

-- what a rule costs, with the line feed behind it
unfoldable pub rule_cost : {P : Type 0} → RawTransition P → ℕ
unfolding spare
rule_cost r = 16 + 2 * spare r

abbrev pub part_cost : {P : Type 0} → Option (RawTransition P) → ℕ
part_cost None = 0
part_cost (Some r) = rule_cost r

-- ---- items

module _ {P : Type 0} where
  abbrev NoRule : Result P (Item P) → Type 0
  NoRule (ok i ts) = (parts i).rule ≡ None
  NoRule (fail n p) = Unit {0}

  record Free (p : Parser P (Item P)) : Type 0 where
    free : (ts : List (Token P)) → NoRule (p ts)

  bind_free : {A : Type 0} (p : Parser P A) (k : A → Parser P (Item P)) → ((a : A) → Free (k a)) → Free (p >>= k)
  unfolding ◌>>=◌
  bind_free {A = A} p k h = record { free = λ ts. go (p ts) }
    where
      go : (r : Result P A) → NoRule (then r k)
      go (ok a us) = (h a).free us
      go (fail n q) = tt

  give_free : {i : Item P} → (parts i).rule ≡ None → Free (give i)
  give_free e = record { free = λ ts. e }

  abbrev Paid : ℕ → Result P (Item P) → Type 0
  Paid n (ok i ts) = part_cost ((parts i).rule) ≤ suc n
  Paid n (fail m p) = Unit {0}

  free_paid : (n : ℕ) (r : Result P (Item P)) → NoRule r → Paid n r
  free_paid n (ok i ts) h = rw h (omega arith)
  free_paid n (fail m p) h = tt

  module _ (stop : P) where
    delta_paid : (n : ℕ) (ts : List (Token P)) → weigh ts + 2 ≤ n → Paid n (item_of stop delta_word ts)
    unfolding item_of ◌>>=◌ then rule_cost
    delta_paid n ts h = go (transition stop ts) ((transition_spends stop).spends ts)
      where
        go : (r : Result P (RawTransition P)) → Spent (λ r. 13 + 2 * spare r) (weigh ts + 0) r → Paid n (then r (λ r. give (transition_item r)))
        go (ok r us) g = omega arith
        go (fail x y) g = tt

    -- no other keyword makes a rule
    paid : {p : Parser P (Item P)} (n : ℕ) (ts : List (Token P)) → Free p → Paid n (p ts)
    paid {p = p} n ts f = free_paid n (p ts) (f.free ts)

    item_paid_of : (k : Keyword) (n : ℕ) (ts : List (Token P)) → weigh ts + key_weight k ≤ n → Paid n (item_of stop k ts)
    unfolding item_of
    item_paid_of delta_word n ts h = delta_paid n ts h
    item_paid_of machine_word n ts h = paid {p = item_of stop machine_word} n ts (bind_free (string stop) _ (λ s. give_free refl))
    item_paid_of kind_word n ts h = paid {p = item_of stop kind_word} n ts (bind_free (choice stop kinds) _ (λ s. give_free refl))
    item_paid_of input_word n ts h = paid {p = item_of stop input_word} n ts (bind_free (string stop) _ (λ s. give_free refl))
    item_paid_of output_word n ts h = paid {p = item_of stop output_word} n ts (bind_free (choice stop outputs) _ (λ w. bind_free (output stop (w.value)) _ (λ s. give_free refl)))
    item_paid_of tapes_word n ts h = paid {p = item_of stop tapes_word} n ts (bind_free (expect stop 0x3D) _ (λ w. bind_free (numeral stop) _ (λ s. give_free refl)))
    item_paid_of states_word n ts h = paid {p = item_of stop states_word} n ts (bind_free (expect stop 0x3D) _ (λ w. bind_free (set stop (state stop)) _ (λ s. give_free refl)))
    item_paid_of sigma_word n ts h = paid {p = item_of stop sigma_word} n ts (bind_free (expect stop 0x3D) _ (λ w. bind_free (set stop (symbol stop)) _ (λ s. give_free refl)))
    item_paid_of gamma_word n ts h = paid {p = item_of stop gamma_word} n ts (bind_free (expect stop 0x3D) _ (λ w. bind_free (set stop (symbol stop)) _ (λ s. give_free refl)))
    item_paid_of blank_word n ts h = paid {p = item_of stop blank_word} n ts (bind_free (expect stop 0x3D) _ (λ w. bind_free (symbol stop) _ (λ s. give_free refl)))
    item_paid_of start_word n ts h = paid {p = item_of stop start_word} n ts (bind_free (expect stop 0x3D) _ (λ w. bind_free (state stop) _ (λ s. give_free refl)))
    item_paid_of final_word n ts h = paid {p = item_of stop final_word} n ts (bind_free (expect stop 0x3D) _ (λ w. bind_free (set stop (state stop)) _ (λ s. give_free refl)))

    item_paid : (ts : List (Token P)) → Paid (weigh ts) (item stop ts)
    unfolding item ◌>>=◌ then choice
    item_paid ts = go (choice stop keywords ts) ((view_spends stop key_weight (word_in keywords) unexpected keyword_weighs).spends ts)
      where
        go : (r : Result P (Located P Keyword)) → Spent (λ l. key_weight (l.value)) (weigh ts + 0) r → Paid (weigh ts) (then r (λ k. item_of stop (k.value)))
        go (ok k us) g = item_paid_of (k.value) (weigh ts) us (omega arith)
        go (fail x y) g = tt

-- ---- lines

abbrev pub line_cost : {P : Type 0} → Line P → ℕ
line_cost blank_line = 0
line_cost (comment_line c) = 0
line_cost (item_line i p c) = part_cost ((parts i).rule)
line_cost (error_line n p) = 0

abbrev pub line_costs : {P : Type 0} → List (Line P) → ℕ
line_costs [] = 0
line_costs (l ∷ ls) = line_cost l + line_costs ls

-- a row's tokens, and the line feed behind them
abbrev row_costs : {P : Type 0} → List (Row P) → ℕ
row_costs [] = 0
row_costs (r ∷ rs) = suc (weigh (r.body)) + row_costs rs

module _ {P : Type 0} where
  front_cost : (e : Ending) (t : Token P) (rs : List (Row P)) → row_costs (in_front e t rs) ≤ weight (t.kind) + row_costs rs
  unfolding in_front
  front_cost line_feed t rs = omega (arith, weight_least (t.kind))
  front_cost goes_by t [] = omega arith
  front_cost goes_by t (r ∷ rs) = omega arith
  front_cost (remark s) t [] = omega arith
  front_cost (remark s) t (r ∷ rs) = omega arith

  rows_cost : (ts : List (Token P)) → row_costs (rows ts) ≤ weigh ts
  unfolding rows
  rows_cost [] = omega arith
  rows_cost (t ∷ ts) = omega (arith, front_cost (ending_of (t.kind)) t (rows ts), rows_cost ts)

  finished_cost : (p : P) (c : Option (Located P (List ℕ))) (n : ℕ) (r : Result P (Item P)) → Paid n r → line_cost (finished p c r) ≤ suc n
  unfolding finished
  finished_cost p c n (ok i []) h = h
  finished_cost p c n (ok i (t ∷ ts)) h = omega arith
  finished_cost p c n (fail x y) h = omega arith

  empty_cost : (c : Option (Located P (List ℕ))) → line_cost {P = P} (empty_line c) ≤ 1
  unfolding empty_line
  empty_cost None = omega arith
  empty_cost (Some c) = omega arith

  module _ (◌⋯◌ : P → P → P) where
    from_cost : (ts : List (Token P)) (stop : P) (c : Option (Located P (List ℕ))) → line_cost (line_from ◌⋯◌ ts stop c) ≤ suc (weigh ts)
    unfolding line_from
    from_cost [] stop c = empty_cost c
    from_cost (t ∷ ts) stop c = finished_cost (◌⋯◌ (t.place) (last_place (t.place) ts)) c (weigh (t ∷ ts)) (item stop (t ∷ ts)) (item_paid stop (t ∷ ts))

    map_cost : (rs : List (Row P)) → line_costs (map (line_of ◌⋯◌) rs) ≤ row_costs rs
    unfolding line_of
    map_cost [] = omega arith
    map_cost (r ∷ rs) = omega (arith, from_cost (r.body) (r.stop) (r.comment), map_cost rs)

    pub lines_cost : (ts : List (Token P)) → line_costs (lines ◌⋯◌ ts) ≤ weigh ts
    unfolding lines
    lines_cost ts = omega (arith, map_cost (rows ts), rows_cost ts)

-- ---- rules

abbrev pub rule_costs : {P : Type 0} → List (RuleLine P) → ℕ
rule_costs [] = 0
rule_costs (l ∷ ls) = rule_cost (l.raw) + rule_costs ls

module _ {P : Type 0} where
  attach_one : (o : Option (RawTransition P)) (seen : Bool) (old block : List (Located P (List ℕ))) (p : P) (c : Option (Located P (List ℕ))) (b : Body P)
      → rule_costs ((attach_item o seen old block p c b).rules) ≤ part_cost o + rule_costs (b.rules)
  unfolding attach_item add_header add_rule
  attach_one None seen old block p c b = omega arith
  attach_one (Some r) seen old block p c b = omega arith

  attach_cost : (seen : Bool) (old block : List (Located P (List ℕ))) (ls : List (Line P)) → rule_costs ((attach seen old block ls).rules) ≤ line_costs ls
  unfolding attach at_end
  attach_cost true old block [] = omega arith
  attach_cost false old block [] = omega arith
  attach_cost seen old block (blank_line ∷ ls) = omega (arith, attach_cost seen (old ++ block) [] ls)
  attach_cost seen old block (comment_line c ∷ ls) = omega (arith, attach_cost seen old (block ++ c ∷ []) ls)
  attach_cost seen old block (error_line n p ∷ ls) = omega (arith, attach_cost true [] [] ls)
  attach_cost seen old block (item_line i p c ∷ ls) = omega (arith, attach_one ((parts i).rule) seen old block p c (attach true [] [] ls), attach_cost true [] [] ls)

  pub body_cost : (ls : List (Line P)) → rule_costs ((body_of ls).rules) ≤ line_costs ls
  unfolding body_of
  body_cost ls = attach_cost false [] [] ls
