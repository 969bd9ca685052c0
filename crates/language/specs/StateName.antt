-- The name of a state, which the function `state_name` answers: nothing of a call's outcome cites this file.
use Rattle.std.specs.Prelude.{ℕ, ◌+◌, ◌*◌, true, false, List, [], leb, length, get_or}
use Rattle.lexer.specs.Places.{part}

-- the name of state i, from a sheet and a text: empty if its words are outside the sheet or its place is not inside the text
unfoldable pub state_name : List ℕ → List ℕ → ℕ → List ℕ
unfolding part
state_name sheet t i =
    elim (leb (3 * i + 3) (length sheet)) [ true ↦ part t (get_or sheet (3 * i) 0) (get_or sheet (3 * i + 1) 0) | false ↦ [] ]
