-- The largest product of read sets whose half cost is at most h, for h up to 40: a table, two computed tests, and an induction.
use Prim.Native.Nat.{ℕ, ◌+◌, ◌-◌, ◌*◌, ◌≤◌, ◌<◌}
use native.Mathlib.Omega.{arith}
use native.Mathlib.Nat.{mul-le-mul_left, le_trans}
use mathlib.Core.Bool.{Bool, true, false, ◌&&◌}
use mathlib.Core.List.{List, [], ◌∷◌}
use mathlib.Core.Path.{◌≡◌, refl, subst}
use borrow.Author.Tests.{leb-true, eqb-true, ne_eqb, lt-ltb}
use lib.Dec.{eqb, leb, ltb}
use lib.ListN.{length, get_or}
use Rattle.lexer.proofs.Keywords.{all_below, all_below_lem}
use Rattle.language.specs.Assembly.{combinations}
use Rattle.language.proofs.Every.{by_test, and_left, and_right}
use Rattle.longest.proofs.ParseCosts.{over, overs, reads_over}
use Rattle.longest.specs.Line.{product_of, number_for}

-- several tapes: a set of s members takes over s + 3
abbrev table : List ℕ
table =
    1 ∷ 1 ∷ 1 ∷ 1 ∷ 1 ∷ 2 ∷ 3 ∷ 4 ∷ 5 ∷ 6 ∷ 7 ∷ 8 ∷ 9 ∷ 12 ∷ 16 ∷ 20 ∷ 25 ∷ 30 ∷ 36 ∷ 42 ∷ 49 ∷
    64 ∷ 80 ∷ 100 ∷ 125 ∷ 150 ∷ 180 ∷ 216 ∷ 256 ∷ 320 ∷ 400 ∷ 500 ∷ 625 ∷ 750 ∷ 900 ∷ 1080 ∷ 1296 ∷ 1600 ∷ 2000 ∷ 2500 ∷ 3125 ∷ []

unfoldable best : ℕ → ℕ
best h = get_or table h 0

-- one set more never passes the table
step_test : ℕ → ℕ → Bool
step_test h s = elim (ltb (h + over s + 3) 41) [ true ↦ leb (s * best h) (best (h + over s + 3)) | false ↦ true ]

steps : all_below (λ (h : ℕ). all_below (step_test h) 41) 41 ≡ true
unfolding step_test best over
steps = refl

-- the number that is given is at least the table's, at least one, and at least h
enough : all_below (λ (h : ℕ). leb 1 (best h) && (leb (best h) (number_for h) && leb h (number_for h))) 41 ≡ true
unfolding best number_for product_of
enough = refl

step_best : (h s : ℕ) → h < 41 → s < 41 → h + over s + 3 < 41 → s * best h ≤ best (h + over s + 3)
unfolding step_test
step_best h s a b c =
    let e : step_test h s ≡ true = all_below_lem (step_test h) 41 (all_below_lem (λ (h : ℕ). all_below (step_test h) 41) 41 steps h a) s b in
    leb-true (s * best h) (best (h + over s + 3)) (rw (lt-ltb (h + over s + 3) 41 c, step_test) at e)

module _ (h : ℕ) (a : h < 41) where
  both : (leb 1 (best h) && (leb (best h) (number_for h) && leb h (number_for h))) ≡ true
  both = all_below_lem (λ (h : ℕ). leb 1 (best h) && (leb (best h) (number_for h) && leb h (number_for h))) 41 enough h a

  best_least : 1 ≤ best h
  best_least = leb-true 1 (best h) (and_left (leb 1 (best h)) _ both)

  best_given : best h ≤ number_for h
  best_given = leb-true (best h) (number_for h) (and_left (leb (best h) (number_for h)) (leb h (number_for h)) (and_right (leb 1 (best h)) _ both))

  pairs_given : h ≤ number_for h
  pairs_given = leb-true h (number_for h) (and_right (leb (best h) (number_for h)) (leb h (number_for h)) (and_right (leb 1 (best h)) _ both))

over_small : (s h : ℕ) → h < 41 → over s ≤ h → s < 41
unfolding over
over_small s h a b = by_test (eqb s 1) (λ e. omega (arith, eqb-true s 1 e)) (λ e. let g : s ≤ h = rw (e, over) at b in omega arith)

-- any number of sets: what is left of h behind the first goes to the others
sets_best : {A : Type 0} (ss : List (List A)) (h : ℕ) → h < 41 → overs ss + 2 * length ss ≤ h → combinations ss ≤ best h
unfolding combinations
sets_best [] h a b = best_least h a
sets_best (s ∷ ss) h a b =
    let g : ℕ = h - (over (length s) + 3) in
    let i : combinations ss ≤ best g = sets_best ss g (omega arith) (omega arith) in
    let q : g + over (length s) + 3 ≡ h = omega arith in
    let n : length s < 41 = over_small (length s) h a (omega arith) in
    let c : length s * best g ≤ best (g + over (length s) + 3) = step_best g (length s) (omega arith) n (omega arith) in
    le_trans (mul-le-mul_left (length s) i) (subst (λ (k : ℕ). length s * best g ≤ best k) q c)

one_best : (s h : ℕ) → h < 41 → over s ≤ h → s * 1 ≤ number_for h
unfolding over
one_best s h a b = by_test (eqb s 1)
    (λ e. omega (arith, eqb-true s 1 e, best_least h a, best_given h a))
    (λ e. let g : s ≤ h = rw (e, over) at b in omega (arith, pairs_given h a))

-- the read sets of a rule with as many symbols written and moves
pub reads_best : {A : Type 0} (ss : List (List A)) (h : ℕ) → h < 41 → reads_over ss + 2 * over (length ss) ≤ h → combinations ss ≤ number_for h
unfolding combinations over
reads_best [] h a b = omega (arith, best_least h a, best_given h a)
reads_best (s ∷ []) h a b = one_best (length s) h a (omega arith)
reads_best (s ∷ t ∷ ss) h a b =
    let e : eqb (length (s ∷ t ∷ ss)) 1 ≡ false = ne_eqb (length (s ∷ t ∷ ss)) 1 (λ p. omega arith) in
    let o : over (length (s ∷ t ∷ ss)) ≡ length (s ∷ t ∷ ss) = rw (e, over) refl in
    le_trans (sets_best (s ∷ t ∷ ss) h a (omega (arith, o))) (best_given h a)
