-- A table of words and a table of their values say the same: one computed test of both over the keywords.
use mathlib.Core.Path.{◌≡◌, refl, sym, ap, subst, ◌∙◌}
use Prim.Native.Nat.{ℕ, suc, ◌+◌, ◌<◌}
use native.Mathlib.Omega.{arith}
use mathlib.Core.Bool.{Bool, true, false, ◌&&◌, ◌||◌}
use mathlib.Core.List.{List, [], ◌∷◌, map}
use Rattle.std.specs.Prelude.{Option, None, Some}
use lib.Dec.{eqb, leb}
use borrow.Author.Tests.{eqb-true, leb-true}
use Rattle.lexer.specs.Text.{same}
use Rattle.lexer.specs.Words.{keywords, position, keyword, word_value}
use Rattle.language.specs.Lines.{meaning_of}
use Rattle.language.proofs.Every.{by_test, and_left, and_right}
use Rattle.language.proofs.InferAgain.{same-eq}

pub true_false {ℓ} : {X : Type ℓ} → true ≡ false → X
true_false e = absurd (let z : ◌≡◌ {A = ℕ} 0 1 = cc in omega arith)

pub or_left : (a b : Bool) → (a || b) ≡ false → a ≡ false
or_left true b e = true_false e
or_left false b e = refl

pub or_right : (a b : Bool) → (a || b) ≡ false → b ≡ false
or_right true b e = true_false e
or_right false b e = e

-- w is one of the words
unfoldable pub member : List (List ℕ) → List ℕ → Bool
member [] w = false
member (k ∷ ks) w = same k w || member ks w

-- what two functions agree on over a list, they agree on at each member
at-member : {X : Type 0} (f g : List ℕ → X) (ks : List (List ℕ)) (w : List ℕ) → map f ks ≡ map g ks → member ks w ≡ true → f w ≡ g w
unfolding member
at-member f g [] w e m = true_false (sym m)
at-member f g (k ∷ ks) w e m =
    by_test (same k w)
    (λ y. let q : k ≡ w = same-eq k w y in let z : f k ≡ g k = cc in subst (λ (x : List ℕ). f x ≡ g x) q z)
    (λ n. let z : map f ks ≡ map g ks = cc in at-member f g ks w z (subst (λ (b : Bool). (b || member ks w) ≡ true) n m))

-- a word that is none of them has no number
no_position_lem : (n : ℕ) (ks : List (List ℕ)) (w : List ℕ) → member ks w ≡ false → position n ks w ≡ 0
unfolding member position
no_position_lem n [] w e = refl
no_position_lem n (k ∷ ks) w e =
    let a : same k w ≡ false = or_left (same k w) (member ks w) e in
    ap (λ (b : Bool). elim b [ true ↦ n | false ↦ position (suc n) ks w ]) a ∙ no_position_lem (suc n) ks w (or_right (same k w) (member ks w) e)

-- each word of a table is a keyword
unfoldable pub known : {A : Type 0} → List (List ℕ × A) → Bool
unfolding member
known [] = true
known (x ∷ l) = member keywords x.0 && known l

no_meaning : {A : Type 0} (l : List (List ℕ × A)) (w : List ℕ) → known l ≡ true → member keywords w ≡ false → meaning_of l w ≡ None
unfolding meaning_of known
no_meaning [] w k e = refl
no_meaning (x ∷ l) w k e =
    let m : member keywords x.0 ≡ true = and_left (member keywords x.0) (known l) k in
    by_test (same x.0 w)
    (λ y. true_false (sym m ∙ ap (λ (v : List ℕ). member keywords v) (same-eq x.0 w y) ∙ e))
    (λ n. ap (λ (b : Bool). elim b [ true ↦ Some x.1 | false ↦ meaning_of l w ]) n ∙ no_meaning l w (and_right (member keywords x.0) (known l) k) e)

-- a value and what it means
pub data Row (A : Type 0) : Type 0 where
  row : ℕ → A → Row A

unfoldable pub find : {A : Type 0} → List (Row A) → ℕ → Option A
find [] v = None
find (row n a ∷ r) v = elim (eqb v n) [ true ↦ Some a | false ↦ find r v ]

-- each value is that of a keyword of one character, or of a longer word
unfoldable pub valued : {A : Type 0} → List (Row A) → Bool
unfolding member
valued [] = true
valued (row n a ∷ r) = (leb 0x110000 n || member keywords (n ∷ [])) && valued r

no_row : {A : Type 0} (r : List (Row A)) (c : ℕ) → valued r ≡ true → c < 0x110000 → member keywords (c ∷ []) ≡ false → find r c ≡ None
unfolding find valued
no_row [] c v h e = refl
no_row (row n a ∷ r) c v h e =
    let m : (leb 0x110000 n || member keywords (n ∷ [])) ≡ true = and_left (leb 0x110000 n || member keywords (n ∷ [])) (valued r) v in
    by_test (eqb c n)
    (λ y.
    let q : c ≡ n = eqb-true c n y in
    by_test (leb 0x110000 n)
    (λ l. absurd (omega (arith, leb-true 0x110000 n l)))
    (λ l. true_false (sym (subst (λ (b : Bool). (b || member keywords (n ∷ [])) ≡ true) l m) ∙ ap (λ (x : ℕ). member keywords (x ∷ [])) (sym q) ∙ e)))
    (λ n'. ap (λ (b : Bool). elim b [ true ↦ Some a | false ↦ find r c ]) n' ∙ no_row r c (and_right (leb 0x110000 n || member keywords (n ∷ [])) (valued r) v) h e)

-- a word of one character is a code point
abbrev pub Codes : List ℕ → Type 0
Codes [] = Unit {0}
Codes (c ∷ []) = c < 0x110000
Codes (c ∷ d ∷ w) = Unit {0}

-- the rule: tested over the keywords, and at the value of every other long word
pub table_rule : {A : Type 0} (l : List (List ℕ × A)) (r : List (Row A)) → map (λ w. find r (word_value w)) keywords ≡ map (meaning_of l) keywords
    → known l ≡ true → valued r ≡ true → find r 0x110000 ≡ None → (w : List ℕ) → Codes w → find r (word_value w) ≡ meaning_of l w
unfolding word_value keyword
table_rule l r test k v z w c = by_test (member keywords w) (at-member (λ w. find r (word_value w)) (meaning_of l) keywords w test) (λ e. go w c e ∙ sym (no_meaning l w k e))
  where
    go : (w : List ℕ) → Codes w → member keywords w ≡ false → find r (word_value w) ≡ None
    go [] c e = z
    go (c ∷ []) h e = no_row r c v h e
    go (c ∷ d ∷ w) h e = ap (λ (n : ℕ). find r (0x110000 + n)) (no_position_lem 1 keywords (c ∷ d ∷ w) e) ∙ z
