-- Laws of the passes over all lines: the rules and how many words they take.
use Rattle.std.proofs.Common.{◌≡◌, ℕ, ◌+◌, ◌-◌, ◌*◌, ◌^◌, ◌<◌, ◌≤◌, List, [], ◌++◌, length, take, drop, sym, refl, ap, ◌∙◌, mul-le-mul, arith, w64, Fits, eq-eqb, ne_eqb}
use Rattle.tokens.specs.declared.Token.{Token}
use Rattle.parser.specs.Row.{peek}
use Rattle.language.specs.Layout.{rule_length}
use Rattle.assembler.specs.Entries.{entries}
use Rattle.assembler.specs.Rules.{combinations}
use Rattle.assembler.proofs.Rows.{entries_at, entries-end}
use Rattle.assembler.proofs.RuleLaws.{combinations_low}
use Rattle.sheet.specs.declared.comments.Pending.{Pending}
use Rattle.sheet.specs.declared.put.Sheet.{Sheet}
use Rattle.sheet.specs.Puts.{Puts}
use Rattle.sheet.specs.Comments.{between, next, nothing, passed, lead_from}
use Rattle.sheet.specs.Rules.{expanded, line_rules, rules_from, rules, read_tokens, line_length, lengths_from, rule_lengths}
use Rattle.sheet.proofs.Puts.{puts_none, puts_as, Left, left_start, left_on, left_end}
use Rattle.sheet.proofs.CommentLaws.{between_few, lines-on}

-- ---- the rules of one line
module _ (blank : ℕ) (ts : List Token) (p : Pending) (i : ℕ) (t : Token) where
  pub line_other : (s : Sheet) → (t.kind ≡ 27 → ⊥) → Puts (line_rules blank ts p i t) s s
  unfolding line_rules
  line_other s h = let e : line_rules blank ts p i t ≡ [] = rw (ne_eqb t.kind 27 h) in puts_as e (puts_none s)

  pub rule-line_put : (l : ℕ) (s r : Sheet) → t.kind ≡ 27 → l ≡ lead_from p → Puts (expanded blank ts l i) s r → Puts (line_rules blank ts p i t) s r
  unfolding line_rules
  rule-line_put l s r h lead u = let e : line_rules blank ts p i t ≡ expanded blank ts l i = rw (eq-eqb t.kind 27 h, lead) in puts_as e u

-- ---- the rules of a row: the walk has come to the line at the index i
abbrev pub Ruling : ℕ → List Token → Sheet → Sheet → Pending → ℕ → Type 0
Ruling blank ts first now p i = Left (rules_from blank ts p (entries_at ts i)) now (rules blank ts) first

pub ruling_start : (blank : ℕ) (ts : List Token) (s : Sheet) → Ruling blank ts s s nothing 0
unfolding rules entries
ruling_start blank ts s = left_start refl

module _ (blank : ℕ) (ts : List Token) (first now : Sheet) (p : Pending) (i : ℕ) (g : Ruling blank ts first now p i) where
  pub ruling_on : (t : Token) (then : Sheet) (p' : Pending) (j : ℕ) → i < length ts → t ≡ peek ts i → Puts (line_rules blank ts p i t) now then → p' ≡ passed p i t → j ≡ next i t
      → Ruling blank ts first then p' j
  unfolding rules_from
  ruling_on t then p' j h here u q f =
      left_on
      (ap (rules_from blank ts p) (lines-on ts i j t h here f) ∙ ap (λ (x : Pending). line_rules blank ts p i t ++ rules_from blank ts x (entries_at ts j)) (sym q))
      g u

  pub ruled : length ts ≤ i → Puts (rules blank ts) first now
  unfolding rules_from
  ruled h = left_end (ap (rules_from blank ts p) (entries-end ts i h)) g

-- ---- how many words one line's take
module _ (ts : List Token) (p : Pending) (i : ℕ) (t : Token) where
  pub length-other : (t.kind ≡ 27 → ⊥) → 0 ≡ line_length ts p i t
  unfolding line_length
  length-other h = rw (ne_eqb t.kind 27 h)

  pub length-rule-line : (n k l : ℕ) (q c : Token) → t.kind ≡ 27 → q ≡ peek ts (i + 1) → c ≡ peek ts (i + 3) → n ≡ combinations (take (c.start - (i + 4)) (drop (i + 4) ts)) → l ≡ lead_from p
      → k ≡ length (between ts l i) → n * (11 + 7 * q.start) + 2 * k ≡ line_length ts p i t
  unfolding line_length read_tokens
  length-rule-line n k l q c h eq ec whole f leads =
      let product : n ≡ combinations (read_tokens ts i) = whole ∙ ap (λ (c : Token). combinations (take (c.start - (i + 4)) (drop (i + 4) ts))) ec in
      let zero_more : 11 + 7 * q.start ≡ rule_length q.start 0 = omega arith in
      let few : k ≡ length (between ts (lead_from p) i) = leads ∙ ap (λ (l : ℕ). length (between ts l i)) f in
      rw (eq-eqb t.kind 27 h, ← product, ← eq, ← few, ← zero_more)

-- the number of a rule's words fits: the product is at most 262,145, its factor a word's
module _ (l : List Token) (n m : ℕ) (product : n ≡ combinations l) (word : m < 2 ^ 32) where
  product_small : n * (11 + 7 * m) ≤ 262145 * (11 + 7 * 2 ^ 32)
  product_small =
      let low : n ≤ 262145 = omega (arith, combinations_low l) in
      let high : 11 + 7 * m ≤ 11 + 7 * 2 ^ 32 = omega arith in
      mul-le-mul low high

  pub product_fits : Fits w64 (n * (11 + 7 * m))
  product_fits = record { fits = omega (arith, product_small) }

  pub length_fits : (ts : List Token) (f i k : ℕ) → k ≡ length (between ts f i) → length ts < 2 ^ 32 → Fits w64 (n * (11 + 7 * m) + 2 * k)
  length_fits ts f i k leads small = record { fits = omega (arith, product_small, between_few ts f i) }

pub leads_fit : (ts : List Token) (l i k : ℕ) → k ≡ length (between ts l i) → length ts < 2 ^ 32 → Fits w64 (2 * k)
leads_fit ts l i k leads small = record { fits = omega (arith, between_few ts l i) }

-- ---- and all lines': the walk has come to the line at the index i
pub record Adding (ts : List Token) (n : ℕ) (p : Pending) (i : ℕ) : Type 0 where
  pub whole : n + lengths_from ts p (entries_at ts i) ≡ rule_lengths ts

pub adding_start : (ts : List Token) → Adding ts 0 nothing 0
unfolding rule_lengths entries
adding_start ts = record { whole = omega arith }

module _ (ts : List Token) (n : ℕ) (p : Pending) (i : ℕ) (g : Adding ts n p i) where
  module _ (t : Token) (h : i < length ts) (here : t ≡ peek ts i) (m : ℕ) (one : m ≡ line_length ts p i t) where
    lengths_split : (p' : Pending) (j : ℕ) → p' ≡ passed p i t → j ≡ next i t → lengths_from ts p (entries_at ts i) ≡ m + lengths_from ts p' (entries_at ts j)
    unfolding lengths_from
    lengths_split p' j q f =
        ap (lengths_from ts p) (lines-on ts i j t h here f) ∙ ap (λ (x : Pending). line_length ts p i t + lengths_from ts x (entries_at ts j)) (sym q)
        ∙ ap (λ (x : ℕ). x + lengths_from ts p' (entries_at ts j)) (sym one)

    pub adding_fits : rule_lengths ts < 2 ^ 64 → Fits w64 (n + m)
    adding_fits b = record { fits = omega (arith, g.whole, lengths_split (passed p i t) (next i t) refl refl) }

    pub adding_on : (p' : Pending) (j : ℕ) → p' ≡ passed p i t → j ≡ next i t → Adding ts (n + m) p' j
    adding_on p' j q f = record { whole = omega (arith, g.whole, lengths_split p' j q f) }

  pub added : length ts ≤ i → n ≡ rule_lengths ts
  unfolding lengths_from
  added h = omega (arith, g.whole, ap (lengths_from ts p) (entries-end ts i h))
