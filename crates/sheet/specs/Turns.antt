-- Wheels that are turned from the last, as the tapes of a rule are.
use Rattle.std.specs.Prelude.{ℕ, zero, suc, Bool, true, false, cond, List, [], ◌∷◌, ◌++◌, map, slice_index_or, slice_set, Option, None, Some}
use Rattle.language.specs.Assembly.{each_front, choices}

-- a wheel of type E at a position of type C: its first position; whether it goes on from a position, and to which; what stands
-- there, and what is left of it from there
pub record Wheel (E C A : Type 0) : Type 0 where
  pub no_entry : E
  pub no_position : C
  pub first : E → C
  pub goes_on : E → C → Bool
  pub step : C → C
  pub value : C → A
  pub from : E → C → List A

module _ {E C A : Type 0} (w : Wheel E C A) where
  -- the members of a wheel behind a position
  abbrev pub rest : E → C → List A
  rest e c = cond (w.goes_on e c) (w.from e (w.step c)) []

  -- a whole wheel
  abbrev pub full : E → List A
  full e = w.from e (w.first e)

  -- the choices from the present one on
  unfoldable pub left : List E → List C → List (List A)
  unfolding each_front choices
  left [] cs = [] ∷ []
  left (e ∷ es) [] = []
  left (e ∷ es) (c ∷ cs) = map (λ l. w.value c ∷ l) (left es cs) ++ each_front (rest e c) (choices (map full es))

  -- the wheels before t turned from the last: one that cannot go on starts again, the first
  -- that can goes on; none if all started again
  unfoldable pub turned : List E → List C → ℕ → Option (List C)
  turned es cs zero = None
  turned es cs (suc t) = elim (w.goes_on (slice_index_or es t w.no_entry) (slice_index_or cs t w.no_position)) [
    | true ↦ Some (slice_set cs t (w.step (slice_index_or cs t w.no_position)))
    | false ↦ turned es (slice_set cs t (w.first (slice_index_or es t w.no_entry))) t
  ]

  -- the choices behind a turn
  unfoldable pub later : List E → Option (List C) → List (List A)
  unfolding left
  later es None = []
  later es (Some cs) = left es cs
