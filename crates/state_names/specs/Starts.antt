-- Where in its text a name stands: the address of what is handed back, counted from the text's.
use Rattle.std.specs.Prelude.{ℕ, ◌+◌, ◌*◌, true, false, List, leb, length, get_or}
use Rattle.lexer.specs.Places.{part_start}

-- where the name of state i begins: at its place's start, or at the front where it is empty because that is not to be had
unfoldable pub state_start : List ℕ → List ℕ → ℕ → ℕ
unfolding part_start
state_start sheet t i = elim (leb (3 * i + 3) (length sheet)) [ true ↦ part_start t (get_or sheet (3 * i) 0) (get_or sheet (3 * i + 1) 0) | false ↦ 0 ]
