-- Paper 02, request 2: what a machine that was read is refused for, 8 to 10 in their order.
use Rattle.std.specs.Prelude.{ℕ, Bool, true, false, ◌&&◌, Option, Some, None, eqb, leb, length}
use Rattle.std.specs.List.{list_all}
use Rattle.language.specs.Content.{Content}
use Rattle.running.specs.Tape.{half}

-- why a machine cannot run: its number of tapes, the arity of a rule, or too few cells
pub data Unfit : Type 0 where
  wrong_tapes wrong_arity too_few_cells : Unfit

-- the number that is returned
abbrev pub unfit_number : Unfit → ℕ
unfit_number wrong_tapes = 8
unfit_number wrong_arity = 9
unfit_number too_few_cells = 10

-- it has 1 to 3 tapes
abbrev pub has_tapes : Content → Bool
has_tapes m = leb 1 m.tapes && leb m.tapes 3

-- each rule's arity is the number of tapes
abbrev pub has_arity : Content → Bool
has_arity m = list_all (λ r. eqb (length r.actions) m.tapes) m.rules

-- half a tape is not 0, and the input is not longer than the right half
unfoldable pub has_room : Content → ℕ → Bool
unfolding half
has_room m cells = let h = half cells m.tapes in leb 1 h && leb (length m.input) h

-- what a machine is refused for on so many cells
unfoldable pub unfit_for : Content → ℕ → Option Unfit
unfolding has_room
unfit_for m cells = elim (has_tapes m) [
  | false ↦ Some wrong_tapes
  | true ↦ elim (has_arity m) [
    | false ↦ Some wrong_arity
    | true ↦ elim (has_room m cells) [ false ↦ Some too_few_cells | true ↦ None ]
  ]
]
