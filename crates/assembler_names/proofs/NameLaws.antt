-- Laws of equal names: equal parts of the text, and the first equal word.
use mathlib.Core.Path.{◌≡◌, refl, sym, ap, ◌∙◌}
use mathlib.Core.Bool.{Bool, true, false, cond, ◌&&◌}
use mathlib.Core.List.{List, [], ◌∷◌}
use Prim.Native.Nat.{ℕ, zero, suc, ◌+◌, ◌*◌, ◌≤◌, ◌<◌}
use native.Mathlib.Omega.{arith}
use native.Mathlib.Nat.{le_of_suc-le-suc}
use borrow.Author.Tests.{eq-eqb, ne_eqb}
use lib.Dec.{eqb}
use lib.Pointwise.{pointwise}
use Rattle.std.specs.Prelude.{nat_eq}
use lib.ListN.{length, take}
use lib.Seq.{take-take}
use Rattle.diag.proofs.Cases.{by_test_lem}
use Rattle.lexer.specs.Text.{same}
use Rattle.lexer.specs.Places.{part}
use Rattle.lexer.proofs.Keywords.{same_true, same_refl}
use Rattle.tokens.specs.declared.Token.{Token}
use Rattle.parser.specs.Row.{tokens_in, peek}
use Rattle.assembler_names.specs.Rows.{rows, Kept}
use Rattle.assembler_names.specs.Names.{same_name, is_word, same_word, has_name, first_equal}
-- ---- the row
pub use Rattle.tokens.proofs.Rows.{length-rows, row_read, row_past}

-- the tokens depend on their words only
four : (n : ℕ) → 4 * suc n ≡ suc (suc (suc (suc (4 * n))))
four n = omega arith

pub tokens-take : (n : ℕ) (w : List ℕ) → tokens_in (take (4 * n) w) ≡ rows n w
unfolding tokens_in
tokens-take zero w = refl
tokens-take (suc n) [] = ap (λ (k : ℕ). tokens_in (take k [])) (four n)
tokens-take (suc n) (a ∷ []) = ap (λ (k : ℕ). tokens_in (take k (a ∷ []))) (four n)
tokens-take (suc n) (a ∷ b ∷ []) = ap (λ (k : ℕ). tokens_in (take k (a ∷ b ∷ []))) (four n)
tokens-take (suc n) (a ∷ b ∷ c ∷ []) = ap (λ (k : ℕ). tokens_in (take k (a ∷ b ∷ c ∷ []))) (four n)
tokens-take (suc n) (a ∷ b ∷ c ∷ d ∷ r) =
    ap (λ (k : ℕ). tokens_in (take k (a ∷ b ∷ c ∷ d ∷ r))) (four n) ∙ ap (λ (l : List Token). record { kind = a; start = b; end = c; value = d } ∷ l) (tokens-take n r)

pub kept-rows : (n a : ℕ) (w₀ w : List ℕ) → Kept a w₀ w → 4 * n ≤ a → rows n w ≡ rows n w₀
kept-rows n a w₀ w k h =
    let z : take (4 * n) w ≡ take (4 * n) w₀ = sym (take-take (4 * n) a w h) ∙ ap (take (4 * n)) k.front ∙ take-take (4 * n) a w₀ h in
    sym (tokens-take n w) ∙ ap tokens_in z ∙ tokens-take n w₀

pub kept_refl : (b : ℕ) (w : List ℕ) → Kept b w w
kept_refl b w = record { front = refl; size = refl }

pub kept_trans : (b : ℕ) (u v w : List ℕ) → Kept b u v → Kept b v w → Kept b u w
kept_trans b u v w p q = record { front = q.front ∙ p.front; size = q.size ∙ p.size }

-- ---- a word with the characters of a name
same_parts : (a b : List ℕ) → pointwise nat_eq a b ≡ same a b
same_parts [] [] = refl
same_parts [] (y ∷ b) = refl
same_parts (x ∷ a) [] = refl
same_parts (x ∷ a) (y ∷ b) = ap (λ (r : Bool). eqb x y && r) (same_parts a b)

pub named_not : (text name : List ℕ) (u : Token) → (u.kind ≡ 0 → ⊥) → eqb u.kind 0 ≡ has_name text name u
unfolding has_name
named_not text name u h = rw (ne_eqb u.kind 0 h)

pub named_is : (text name : List ℕ) (u : Token) (other : List ℕ) (r : Bool) → u.kind ≡ 0 → other ≡ part text u.start u.end → r ≡ pointwise nat_eq other name → r ≡ has_name text name u
unfolding has_name
named_is text name u other r h o e = rw (eq-eqb u.kind 0 h) (e ∙ same_parts other name ∙ ap (λ (l : List ℕ). same l name) o)

pub named_same : (text : List ℕ) (t u : Token) → has_name text (part text t.start t.end) u ≡ same_word text t u
unfolding has_name same_word same_name
named_same text t u = refl

-- ---- equal names have equal parts of the text
abbrev pub part_of : List ℕ → Token → List ℕ
part_of text t = part text t.start t.end

pub name-part : (text : List ℕ) (a b : Token) → same_name text a b ≡ true → part_of text a ≡ part_of text b
unfolding same_name
name-part text a b e = same_true (part_of text a) (part_of text b) e

pub part-name : (text : List ℕ) (a b : Token) → part_of text a ≡ part_of text b → same_name text a b ≡ true
unfolding same_name
part-name text a b e = ap (same (part_of text a)) (sym e) ∙ same_refl (part_of text a)

pub word-part : (text : List ℕ) (t u : Token) → same_word text t u ≡ true → part_of text u ≡ part_of text t
unfolding same_word
word-part text t u e = by_test_lem (is_word u) (λ w. name-part text u t (rw w at e)) (λ w. let z : false ≡ true = rw w at e in cc)

pub word_is : (text : List ℕ) (t u : Token) → same_word text t u ≡ true → is_word u ≡ true
unfolding same_word
word_is text t u e = by_test_lem (is_word u) (λ w. w) (λ w. let z : false ≡ true = rw w at e in cc)

pub word_yes : (text : List ℕ) (t u : Token) → is_word u ≡ true → part_of text u ≡ part_of text t → same_word text t u ≡ true
unfolding same_word
word_yes text t u w e = rw w (part-name text u t e)

-- ---- the first equal word is found
pub record Found (text : List ℕ) (t : Token) (i : ℕ) (us : List Token) (k : ℕ) : Type 0 where
  pub at : ℕ
  pub is : first_equal text t i us ≡ i + at
  pub low : at ≤ k
  pub equal : same_word text t (peek us at) ≡ true

pub first_yes : (text : List ℕ) (t : Token) (i : ℕ) (u : Token) (us : List Token) → same_word text t u ≡ true → first_equal text t i (u ∷ us) ≡ i
unfolding first_equal
first_yes text t i u us e = ap (λ (b : Bool). elim b [ true ↦ i | false ↦ first_equal text t (suc i) us ]) e

pub first_no : (text : List ℕ) (t : Token) (i : ℕ) (u : Token) (us : List Token) → same_word text t u ≡ false → first_equal text t i (u ∷ us) ≡ first_equal text t (suc i) us
unfolding first_equal
first_no text t i u us e = ap (λ (b : Bool). elim b [ true ↦ i | false ↦ first_equal text t (suc i) us ]) e

found : (text : List ℕ) (t : Token) (i : ℕ) (us : List Token) (k : ℕ) → k < length us → same_word text t (peek us k) ≡ true → Found text t i us k
found text t i [] k h e = absurd (omega arith)
found text t i (u ∷ us) zero h e = record { at = 0; is = first_yes text t i u us e ∙ omega arith; low = omega arith; equal = e }
found text t i (u ∷ us) (suc k) h e =
    let r = found text t (suc i) us k (le_of_suc-le-suc h) e in
    by_test_lem (same_word text t u) (λ y. record { at = 0; is = first_yes text t i u us y ∙ omega arith; low = omega arith; equal = y })
    (λ n. record { at = suc r.at; is = first_no text t i u us n ∙ r.is ∙ omega arith; low = omega (arith, r.low); equal = r.equal })

module _ (text : List ℕ) (ts : List Token) where
  -- the first equal word of the token at x
  abbrev first_of : ℕ → ℕ
  first_of x = first_equal text (peek ts x) 0 ts

  module _ (x : ℕ) (low : x < length ts) (word : is_word (peek ts x) ≡ true) where
    itself : same_word text (peek ts x) (peek ts x) ≡ true
    unfolding same_word
    itself = rw word (part-name text (peek ts x) (peek ts x) refl)

    first_found : Found text (peek ts x) 0 ts x
    first_found = found text (peek ts x) 0 ts x low itself

    pub first-before : first_of x ≤ x
    first-before = omega (arith, first_found.is, first_found.low)

    pub first_low : first_of x < length ts
    first_low = omega (arith, first-before)

    pub first_equal_lem : same_word text (peek ts x) (peek ts (first_of x)) ≡ true
    first_equal_lem =
        let z : 0 + first_found.at ≡ first_found.at = omega arith in
        ap (λ (k : ℕ). same_word text (peek ts x) (peek ts k)) (first_found.is ∙ z) ∙ first_found.equal

    pub first_part : part_of text (peek ts (first_of x)) ≡ part_of text (peek ts x)
    first_part = word-part text (peek ts x) (peek ts (first_of x)) first_equal_lem

    pub first_word : is_word (peek ts (first_of x)) ≡ true
    first_word = word_is text (peek ts x) (peek ts (first_of x)) first_equal_lem

-- ---- equal names have the same first word, and others not
same_words : (text : List ℕ) (t v u : Token) → part_of text t ≡ part_of text v → same_word text t u ≡ same_word text v u
unfolding same_word same_name
same_words text t v u e = ap (λ (p : List ℕ). cond (is_word u) (same (part_of text u) p) false) e

pub first-same : (text : List ℕ) (t v : Token) (i : ℕ) (us : List Token) → part_of text t ≡ part_of text v → first_equal text t i us ≡ first_equal text v i us
unfolding first_equal
first-same text t v i [] e = refl
first-same text t v i (u ∷ us) e =
    ap (λ (b : Bool). elim b [ true ↦ i | false ↦ first_equal text t (suc i) us ]) (same_words text t v u e)
    ∙ ap (λ (n : ℕ). elim (same_word text v u) [ true ↦ i | false ↦ n ]) (first-same text t v (suc i) us e)

-- the first equal word is its own
pub first_again : (text : List ℕ) (ts : List Token) (x : ℕ) → x < length ts → is_word (peek ts x) ≡ true → first_equal text (peek ts (first_equal text (peek ts x) 0 ts)) 0 ts ≡ first_equal text (peek ts x) 0 ts
first_again text ts x h w = first-same text (peek ts (first_equal text (peek ts x) 0 ts)) (peek ts x) 0 ts (first_part text ts x h w)
