-- Counts for every text: no rule set is empty, no more rules than the limit, and the sheet has the words that the counts say.
use Prim.Native.Nat.{ℕ, ◌+◌, ◌≤◌, ◌<◌}
use native.Mathlib.Omega.{arith}
use mathlib.Core.Bool.{Bool, ◌&&◌}
use mathlib.Core.List.{List, [], ◌∷◌}
use mathlib.Core.Path.{◌≡◌, refl, sym}
use borrow.Author.Tests.{leb-true}
use lib.Dec.{eqb, leb}
use lib.ListN.{length}
use Rattle.lexer.specs.Tokens.{Token, Span, tokens}
use Rattle.language.specs.Lines.{Line, state_in, symbol_in, string_in, Ending, line_feed, goes_by, remark, ending_of, lines, covering, read_lines}
use Rattle.language.specs.Assembly.{items, blank_of, RuleLine, body_of, combinations, expands, wrong_arity, too_many, verdict, kept}
use Rattle.language.specs.Infer.{machine_of}
use Rattle.language.specs.Layout.{sheet_words, sheet_length}
use Rattle.language.proofs.Every.{by_test, Every, Filled, every_any, every_impl}
use Rattle.language.proofs.ParseHolds.{Any, any_maybe, Goods, GoodEnding, EachOfSome, lines_good}
use Rattle.language.proofs.AssemblyHolds.{GoodRuleLine, body_good}
use Rattle.language.proofs.Counts.{Chosen, by_verdict, kept_every, kept_fits, rule_count, rules-length, sheet_length_lem}

-- ---- read sets

-- a rule with a choice for each tape stands for a rule at least
pub never_empty : {A : Type 0} (ss : List (List A)) → Every Filled ss → 0 < combinations ss
unfolding combinations
never_empty [] h = omega arith
never_empty ((a ∷ s) ∷ ss) h = let k : 0 < combinations ss = never_empty ss h.1 in omega arith
never_empty ([] ∷ ss) h = absurd h.0

-- nothing is asked of names, strings, symbols and comments
abbrev free : {P : Type 0} → Goods P
free = record { name = Any; text = Any; sym = Any; note = Any }

any_ending : (e : Ending) → GoodEnding Any e
any_ending line_feed = tt
any_ending goes_by = tt
any_ending (remark s) = tt

-- the read sets of every rule that is read have members
pub read_chosen : {P : Type 0} (◌⋯◌ : P → P → P) (ts : List (Token P)) → Every Chosen (body_of (lines ◌⋯◌ ts)).rules
read_chosen ◌⋯◌ ts =
    every_impl (GoodRuleLine free) Chosen (λ l g. every_impl (EachOfSome Any) Filled (λ s h. h.0) l.raw.read g.raw_good.read_good.1) (body_of (lines ◌⋯◌ ts)).rules
    (body_good free (lines ◌⋯◌ ts) (lines_good Any free (λ t _. any_maybe (state_in t.kind)) (λ t _. any_maybe (symbol_in t.kind)) (λ t _. any_maybe (string_in t.kind)) (λ t _. any_ending (ending_of t.kind)) ◌⋯◌ ts (every_any Any (λ t. tt) ts))).rules_good

-- ---- the limit

not_many : too_many ≡ expands → ⊥
not_many q = let z : ◌≡◌ {A = ℕ} 0 1 = cc in omega arith

not_arity : wrong_arity ≡ expands → ⊥
not_arity q = let z : ◌≡◌ {A = ℕ} 0 1 = cc in omega arith

expands_within : {P : Type 0} (n : ℕ) (l : RuleLine P) → verdict n l.raw ≡ expands → n + combinations l.raw.read ≤ 262144
unfolding verdict
expands_within n l e =
    let fit : Bool = eqb (length l.raw.write) (length l.raw.read) && eqb (length l.raw.dir) (length l.raw.read) in
    by_test fit
    (λ h. by_test (leb (n + combinations l.raw.read) 262144) (λ k. leb-true _ _ k) (λ k. absurd (not_many (rw (h, k, verdict) at e))))
    (λ h. absurd (not_arity (rw (h, verdict) at e)))

-- never more rules than the limit
pub kept-within : {P : Type 0} (n : ℕ) (ls : List (RuleLine P)) → n ≤ 262144 → n + rule_count (kept n ls) ≤ 262144
unfolding kept rule_count
kept-within n [] h = omega arith
kept-within n (l ∷ ls) h = by_verdict (verdict n l.raw)
    (λ e. rw (e, kept) (let k : n + combinations l.raw.read + rule_count (kept (n + combinations l.raw.read) ls) ≤ 262144 = kept-within (n + combinations l.raw.read) ls (expands_within n l e) in omega arith))
    (λ e. rw (e, kept) (kept-within n ls h))
    (λ e. rw (e, kept) (kept-within n ls h))

pub rules-within : {P : Type 0} (ls : List (Line P)) → length (machine_of ls).rules ≤ 262144
unfolding machine_of
rules-within ls = let h : 0 + rule_count (kept 0 (body_of ls).rules) ≤ 262144 = kept-within 0 (body_of ls).rules (omega arith) in rw (rules-length (blank_of (items ls)) (kept 0 (body_of ls).rules)) (omega arith)

-- ---- the sheet

-- the sheet of a text has the number of words that the counts say, found without expanding a rule
pub read-sheet_length : (cs : List ℕ) → length (sheet_words (machine_of (read_lines cs))) ≡ sheet_length (machine_of (read_lines cs)) (kept 0 (body_of (read_lines cs)).rules)
unfolding read_lines machine_of
read-sheet_length cs =
    let ls : List (Line Span) = read_lines cs in
    sheet_length_lem (machine_of ls) (blank_of (items ls)) (kept 0 (body_of ls).rules) refl (kept_fits 0 (body_of ls).rules) (kept_every Chosen Chosen (λ n l h e. h) 0 (body_of ls).rules (read_chosen covering (tokens cs)))
