-- An option that is taken.
use Prim.Native.Nat.{ℕ, ◌≤◌}
use mathlib.Core.Bool.{true, false}
use mathlib.Core.List.{List}
use mathlib.Core.Path.{◌≡◌, refl}
use borrow.Author.Tests.{le-leb}
use Rattle.std.specs.Prelude.{Some, bytes_eq}
use Rattle.lexer.specs.Text.{codes}
use Rattle.run_arguments.specs.declared.Limits.{Limits}
use Rattle.run_arguments.specs.Arguments.{max_cells, with_cells, number_of, with_option}

-- limits with no more cells than there are
few_cells : (l : Limits) (n : ℕ) → n ≤ max_cells → Some (record { steps = l.steps; cells = n }) ≡ with_cells l n
few_cells l n h = rw (le-leb n max_cells h, with_cells) refl

-- an option that asks for them
pub cells_taken : (l : Limits) (name value : List ℕ) (n : ℕ) → bytes_eq name (codes "--steps") ≡ false → bytes_eq name (codes "--cells") ≡ true
    → number_of value ≡ Some n → n ≤ max_cells → Some (record { steps = l.steps; cells = n }) ≡ with_option l name value
unfolding with_option
cells_taken l name value n e f g h = rw (e, f, g, with_option) (few_cells l n h)
