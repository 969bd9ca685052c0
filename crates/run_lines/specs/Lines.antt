-- What the program `run` prints of a run that ended: the text's length, its tapes, the stop, the steps, how many cells are not
-- blank, the state, and each head and tape. A piece is bytes here, as in crate list_lines.
use Rattle.std.specs.Prelude.{ℕ, ◌-◌, ◌*◌, true, false, not, List, [], ◌∷◌, reverse, length, take, drop, eqb, ltb, count_by}
use Prim.Native.String as S
use Rattle.chars.specs.Utf8.{encode}
use Rattle.language.specs.Content.{Content}
use Rattle.language.specs.Plain.{Piece, ◌⨾◌, nothing, say, verbatim, end, each}
use Rattle.running.specs.Tape.{half, tape_cells}
use Rattle.running.specs.Run.{Stop, halted, stuck, spent, edge, Ended}
use Rattle.list_lines.specs.Listing.{number, bytes_line}

-- ---- the run

-- how many tapes there are, and half of one
unfoldable pub tapes_line : ℕ → ℕ → Piece
unfolding number
tapes_line tapes h = say "tapes=" ⨾ number tapes ⨾ say " half=" ⨾ number h ⨾ end

-- the word of a stop
abbrev pub stop_word : Stop → S.String
stop_word halted = "halted"
stop_word stuck = "stuck"
stop_word spent = "spent"
stop_word edge = "edge"

-- why the run stopped
unfoldable pub stop_line : Stop → Piece
stop_line s = say "stop=" ⨾ say (stop_word s) ⨾ end

-- its own steps
unfoldable pub steps_line : ℕ → Piece
unfolding number
steps_line n = say "steps=" ⨾ number n ⨾ end

-- how many cells are not blank
unfoldable pub nonblank : ℕ → List ℕ → ℕ
nonblank blank cells = count_by (λ c. not (eqb c blank)) cells

-- the same of all tapes
unfoldable pub nonblank_line : ℕ → List ℕ → Piece
unfolding number nonblank
nonblank_line blank cells = say "nonblank=" ⨾ number (nonblank blank cells) ⨾ end

-- the name of the state, by its bytes; it is empty where there is none
unfoldable pub state_line : List ℕ → Piece
state_line name = say "state=" ⨾ verbatim name ⨾ end

-- ---- heads and tapes

-- the position of an offset: a minus sign only below zero
unfoldable pub position_of : ℕ → ℕ → Piece
unfolding number
position_of h a = elim (ltb a h) [ true ↦ say "-" ⨾ number (h - a) | false ↦ number (a - h) ]

-- where a head stands
unfoldable pub head_line : ℕ → ℕ → Piece
unfolding position_of
head_line h a = say "head=" ⨾ position_of h a ⨾ end

-- the cells from the first that is not blank on
unfoldable pub from_nonblank : ℕ → List ℕ → List ℕ
from_nonblank blank [] = []
from_nonblank blank (c ∷ cs) = elim (eqb c blank) [ true ↦ from_nonblank blank cs | false ↦ c ∷ cs ]

-- the cells up to the last that is not blank
unfoldable pub to_nonblank : ℕ → List ℕ → List ℕ
unfolding from_nonblank
to_nonblank blank cells = reverse (from_nonblank blank (reverse cells))

-- a code behind a space
unfoldable pub code : ℕ → Piece
unfolding number
code c = say " " ⨾ number c

-- cells from an offset on: the position of the first, and the code of each; nothing where there are none
unfoldable pub codes_from : ℕ → ℕ → List ℕ → Piece
unfolding position_of each code
codes_from h a [] = nothing
codes_from h a (c ∷ cs) = position_of h a ⨾ each code (c ∷ cs)

-- a tape from its first to its last cell that is not blank
unfoldable pub tape_line : ℕ → ℕ → List ℕ → Piece
unfolding from_nonblank to_nonblank codes_from
tape_line h blank cells =
    let rest = from_nonblank blank cells in
    say "tape=" ⨾ codes_from h (length cells - length rest) (to_nonblank blank rest) ⨾ end

-- each head and its tape, tape by tape from the front
unfoldable pub tape_lines : ℕ → ℕ → List ℕ → List ℕ → Piece
unfolding head_line tape_line
tape_lines h blank [] cells = nothing
tape_lines h blank (a ∷ heads) cells =
    head_line h a ⨾ tape_line h blank (take (2 * h) cells) ⨾ tape_lines h blank heads (drop (2 * h) cells)

-- ---- all of it

-- the lines of a machine's run that ended
unfoldable pub ended_lines : List ℕ → Content → Ended → Piece
unfolding half bytes_line tapes_line stop_line steps_line nonblank_line encode state_line tape_lines
ended_lines text m e =
    let h = half (length e.last.cells) m.tapes in
    bytes_line text ⨾ tapes_line m.tapes h ⨾ stop_line e.stop ⨾ steps_line e.steps
    ⨾ nonblank_line m.blank (take (tape_cells h m.tapes) e.last.cells) ⨾ state_line (encode e.last.state)
    ⨾ tape_lines h m.blank e.last.heads e.last.cells
