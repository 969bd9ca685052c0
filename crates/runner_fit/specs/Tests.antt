-- Describes the code: the three tests of a machine, over the words of an answer.
use Rattle.std.specs.Prelude.{ℕ, Bool, true, false, List, Option, Some, None, eqb}
use Rattle.std.specs.List.{list_all}
use Rattle.sheet_view.specs.Rules.{arity_of}
use Rattle.running.specs.Refusals.{Unfit, wrong_tapes, wrong_arity, too_few_cells}

-- each rule's record says so many tapes
abbrev pub same_arity : ℕ → List (List ℕ) → Bool
same_arity tapes rs = list_all (λ ws. eqb (arity_of ws) tapes) rs

-- what a machine is refused for, by whether it passes the test of its tapes, of its rules' arity and of its cells
abbrev pub by_tests : Bool → Bool → Bool → Option Unfit
by_tests tapes arity room = elim tapes [
  | false ↦ Some wrong_tapes
  | true ↦ elim arity [ false ↦ Some wrong_arity | true ↦ elim room [ false ↦ Some too_few_cells | true ↦ None ] ]
]
