-- Cells from the first that is not blank on, and up to the last one, a cell at a time.
use Prim.Native.Nat.{ℕ, ◌≤◌}
use native.Mathlib.Omega.{arith}
use mathlib.Core.List.{List, [], ◌∷◌, ◌++◌, reverse, reverse-append, reverse-reverse}
use mathlib.Core.Path.{◌≡◌, refl, ap, sym, ◌∙◌}
use borrow.Author.Tests.{eq-eqb, ne_eqb}
use lib.Dec.{eqb}
use lib.ListN.{length}
use Rattle.language.proofs.Every.{by_test}
use Rattle.run_lines.specs.Lines.{from_nonblank, to_nonblank}

module _ (blank : ℕ) where
  -- a blank cell in front is passed
  pub first_blank : (c : ℕ) (cs : List ℕ) → c ≡ blank → from_nonblank blank (c ∷ cs) ≡ from_nonblank blank cs
  unfolding from_nonblank
  first_blank c cs e = rw (eq-eqb c blank e, from_nonblank)

  -- another cell in front is the first
  pub first_nonblank : (c : ℕ) (cs : List ℕ) → (c ≡ blank → ⊥) → from_nonblank blank (c ∷ cs) ≡ c ∷ cs
  unfolding from_nonblank
  first_nonblank c cs e = rw (ne_eqb c blank e, from_nonblank)

  pub from_none : from_nonblank blank [] ≡ []
  unfolding from_nonblank
  from_none = refl

  -- a blank cell at the end is cut off
  pub last_blank : (c : ℕ) (cs : List ℕ) → c ≡ blank → to_nonblank blank (cs ++ c ∷ []) ≡ to_nonblank blank cs
  unfolding to_nonblank
  last_blank c cs e = rw (reverse-append cs (c ∷ [])) (ap reverse (first_blank c (reverse cs) e))

  -- another cell at the end is the last
  pub last_nonblank : (c : ℕ) (cs : List ℕ) → (c ≡ blank → ⊥) → to_nonblank blank (cs ++ c ∷ []) ≡ cs ++ c ∷ []
  unfolding to_nonblank
  last_nonblank c cs e =
      let whole : reverse (cs ++ c ∷ []) ≡ c ∷ reverse cs = reverse-append cs (c ∷ []) in
      ap (λ l. reverse (from_nonblank blank l)) whole ∙ ap reverse (first_nonblank c (reverse cs) e ∙ sym whole) ∙ reverse-reverse (cs ++ c ∷ [])

  pub to_none : to_nonblank blank [] ≡ []
  unfolding to_nonblank from_nonblank
  to_none = refl

  -- they are some of the cells
  pub nonblank_fewer : (cs : List ℕ) → length (from_nonblank blank cs) ≤ length cs
  unfolding from_nonblank
  nonblank_fewer [] = omega arith
  nonblank_fewer (c ∷ cs) = by_test (eqb c blank)
      (λ e. rw (e, from_nonblank) (let i = nonblank_fewer cs in omega arith))
      (λ e. rw (e, from_nonblank) (omega arith))
