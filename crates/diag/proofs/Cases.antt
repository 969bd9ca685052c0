-- A proof by cases on a test.
use mathlib.Core.Path.{◌≡◌, refl}
use mathlib.Core.Bool.{Bool, true, false}

pub by_test_lem : {X : Type 0} (b : Bool) → (b ≡ true → X) → (b ≡ false → X) → X
by_test_lem true f g = f refl
by_test_lem false f g = g refl
