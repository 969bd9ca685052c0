-- Numbers, computed: on both sides of the bound, with needless zeros, and what is none.
use Prim.Native.Nat.{ℕ}
use mathlib.Core.List.{List, [], ◌∷◌, map}
use mathlib.Core.Path.{◌≡◌, refl}
use Rattle.std.specs.Prelude.{Some, None}
use Rattle.lexer.specs.Text.{codes}
use Rattle.run_arguments.specs.Arguments.{number_of}

given : List (List ℕ)
given =
    codes "0" ∷ codes "007" ∷ codes "10000000000" ∷ codes "18446744073709551615" ∷ codes "18446744073709551616" ∷ codes "" ∷ codes "-1" ∷ codes "1a" ∷
    codes "+1" ∷ codes " 1" ∷ []

table : map number_of given ≡ Some 0 ∷ Some 7 ∷ Some 10000000000 ∷ Some 18446744073709551615 ∷ None ∷ None ∷ None ∷ None ∷ None ∷ None ∷ []
unfolding number_of given
table = refl
