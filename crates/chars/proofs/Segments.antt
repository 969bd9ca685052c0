-- A table of ranges gives one answer over a segment of numbers: a test that computes.
use mathlib.Core.Path.{◌≡◌, sym, ap, subst, ◌∙◌}
use Prim.Native.Nat.{ℕ, suc, ◌≤◌, ◌<◌, zero-le}
use native.Mathlib.Omega.{arith}
use mathlib.Core.Logic.{inl, inr, ⊎_elim}
use mathlib.Core.Bool.{Bool, true, false, cond, ◌&&◌, ◌||◌}
use mathlib.Core.Option.{Option, none, some}
use mathlib.Core.List.{List, [], ◌∷◌, ◌++◌}
use lib.Dec.{leb, ltb, eqb}
use borrow.Author.Tests.{lt-leb, le-leb, leb-true, ltb-true, eqb-true}
use types.Run.{OneOf}
use Rattle.chars.proofs.Tests.{split, lt-or-ge, or_cases, and_both}
use Rattle.std.proofs.lemmas.Bool.{and_right}
use Rattle.chars.specs.Ranges.{Entry, row, rows, lookup, within}
use Rattle.chars.specs.Class.{admitted}

-- c is one of the list
abbrev pub has : List ℕ → ℕ → Bool
has [] c = false
has (k ∷ ks) c = eqb k c || has ks c

-- a is at most each number from lo on that is none of ks, and b at least each below hi:
-- lo, or what is next to b, may be one of ks
abbrev pub starts : List ℕ → ℕ → ℕ → Bool
starts ks a lo = leb a lo || (has ks lo && leb a (suc lo))

abbrev pub ends : List ℕ → ℕ → ℕ → Bool
ends ks b hi = leb hi (suc b) || (has ks (suc b) && leb hi (suc (suc b)))

-- what the table gives at every number from lo, below hi, that is none of ks: where it is one thing
abbrev pub over : {A : Type 0} → List (Entry A) → A → List ℕ → ℕ → ℕ → Option A
over [] z ks lo hi = some z
over (row a b x ∷ r) z ks lo hi =
    cond (leb hi a || (ltb b lo || (eqb a b && has ks a))) (over r z ks lo hi) (cond (starts ks a lo && ends ks b hi) (some x) none)

low : (a b c : ℕ) → c < a → (leb a c && leb c b) ≡ false
low a b c h = ap (λ (x : Bool). x && leb c b) (lt-leb a c h)

high : (a b c : ℕ) → b < c → (leb a c && leb c b) ≡ false
high a b c h = and_right (leb a c) (leb c b) (lt-leb c b h)

beside : (a c : ℕ) → (c ≡ a → ⊥) → (leb a c && leb c a) ≡ false
beside a c f = ⊎_elim (λ (h : c < a). low a a c h) (λ (h : a ≤ c). high a a c (omega arith)) (lt-or-ge c a)

-- ---- the keys of a `match`
abbrev pub All : (ℕ → Type 0) → List ℕ → Type 0
All P [] = Unit {0}
All P (k ∷ ks) = P k × All P ks

pub all_of : (P : ℕ → Type 0) (ks : List ℕ) → All P ks → (c : ℕ) → OneOf ks c → P c
all_of P [] a c o = absurd o
all_of P (k ∷ []) a c o = subst P (sym o) a.0
all_of P (k ∷ j ∷ ks) a c o = ⊎_elim (λ (e : c ≡ k). subst P (sym e) a.0) (λ o. all_of P (j ∷ ks) a.1 c o) o

module _ (c : ℕ) where
  abbrev pub Not : List ℕ → Type 0
  Not ks = (k : ℕ) → has ks k ≡ true → c ≡ k → ⊥

  pub no_none : Not []
  no_none k e p = let z : ◌≡◌ {A = ℕ} 0 1 = cc in omega arith

  pub no_more : (ks js : List ℕ) → (OneOf ks c → ⊥) → Not js → Not (ks ++ js)
  no_more [] js f n j e p = n j e p
  no_more (k ∷ []) js f n j e p =
      ⊎_elim (λ (q : eqb k j ≡ true). f (p ∙ sym (eqb-true k j q))) (λ (q : has js j ≡ true). n j q p) (or_cases (eqb k j) (has js j) e)
  no_more (k ∷ i ∷ ks) js f n j e p =
      ⊎_elim (λ (q : eqb k j ≡ true). f (inl (p ∙ sym (eqb-true k j q))))
      (λ (q : has ((i ∷ ks) ++ js) j ≡ true). no_more (i ∷ ks) js (λ o. f (inr o)) n j q p)
      (or_cases (eqb k j) (has ((i ∷ ks) ++ js) j) e)

  module _ {A : Type 0} (z : A) (ks : List ℕ) (no : Not ks) (lo hi : ℕ) (from : lo ≤ c) (below : c < hi) where
    misses : (a b : ℕ) → (leb hi a || (ltb b lo || (eqb a b && has ks a))) ≡ true → (leb a c && leb c b) ≡ false
    misses a b e =
        ⊎_elim (λ (p : leb hi a ≡ true). low a b c (omega (arith, leb-true hi a p)))
        (λ (q : (ltb b lo || (eqb a b && has ks a)) ≡ true).
        ⊎_elim (λ (p : ltb b lo ≡ true). high a b c (omega (arith, ltb-true b lo p)))
        (λ (p : (eqb a b && has ks a) ≡ true).
        let w = and_both (eqb a b) (has ks a) p in
        subst (λ (y : ℕ). (leb a c && leb c y) ≡ false) (eqb-true a b w.0) (beside a c (no a w.1)))
        (or_cases (ltb b lo) (eqb a b && has ks a) q))
        (or_cases (leb hi a) (ltb b lo || (eqb a b && has ks a)) e)

    from_start : (a : ℕ) → starts ks a lo ≡ true → a ≤ c
    from_start a e =
        ⊎_elim (λ (p : leb a lo ≡ true). omega (arith, leb-true a lo p))
        (λ (p : (has ks lo && leb a (suc lo)) ≡ true).
        let w = and_both (has ks lo) (leb a (suc lo)) p in
        let f : c ≡ lo → ⊥ = no lo w.0 in
        omega (arith, leb-true a (suc lo) w.1))
        (or_cases (leb a lo) (has ks lo && leb a (suc lo)) e)

    to_end : (b : ℕ) → ends ks b hi ≡ true → c ≤ b
    to_end b e =
        ⊎_elim (λ (p : leb hi (suc b) ≡ true). omega (arith, leb-true hi (suc b) p))
        (λ (p : (has ks (suc b) && leb hi (suc (suc b))) ≡ true).
        let w = and_both (has ks (suc b)) (leb hi (suc (suc b))) p in
        let f : c ≡ suc b → ⊥ = no (suc b) w.0 in
        omega (arith, leb-true hi (suc (suc b)) w.1))
        (or_cases (leb hi (suc b)) (has ks (suc b) && leb hi (suc (suc b))) e)

    hits : (a b : ℕ) → (starts ks a lo && ends ks b hi) ≡ true → (leb a c && leb c b) ≡ true
    hits a b e =
        let w = and_both (starts ks a lo) (ends ks b hi) e in
        rw (le-leb a c (from_start a w.0), le-leb c b (to_end b w.1))

    pub one_over : (t : List (Entry A)) (k : A) → over t z ks lo hi ≡ some k → lookup t z c ≡ k
    unfolding lookup
    one_over [] k e = cc
    one_over (row a b x ∷ r) k e =
        split (λ (o : Option A). o ≡ some k → lookup (row a b x ∷ r) z c ≡ k) (leb hi a || (ltb b lo || (eqb a b && has ks a)))
        {x = over r z ks lo hi} {y = cond (starts ks a lo && ends ks b hi) (some x) none}
        (λ s f. rw (misses a b s) (one_over r k f))
        (λ s. split (λ (o : Option A). o ≡ some k → lookup (row a b x ∷ r) z c ≡ k) (starts ks a lo && ends ks b hi) {x = some x} {y = none}
        (λ u f. rw (hits a b u) (cc))
        (λ u f. cc))
        e

-- ---- the set over a segment
pub admitted_over : (c lo hi : ℕ) (b : Bool) → lo ≤ c → c < hi → over (rows true admitted []) false [] lo hi ≡ some b → b ≡ within admitted c
unfolding within
admitted_over c lo hi b l u e = sym (one_over c false [] (no_none c) lo hi l u (rows true admitted []) b e)

pub admitted_first : (c hi : ℕ) (b : Bool) → c < hi → over (rows true admitted []) false [] 0 hi ≡ some b → b ≡ within admitted c
admitted_first c hi b u e = admitted_over c 0 hi b zero-le u e
