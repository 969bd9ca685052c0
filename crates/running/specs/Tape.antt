-- Paper 02, request 2: tapes on one lent row of cells, a code in each. A head is kept as its offset from the lowest cell of its
-- tape, which is its position + half.
use Rattle.std.specs.Prelude.{ℕ, ◌+◌, ◌*◌, ◌/◌, List, ◌++◌, length, drop, replicate}
use lib.Seq.{sets}
use Rattle.language.specs.Content.{Content}

-- half a tape: so many cells are split evenly, 2 times half to each tape, half as large as fits
unfoldable pub half : ℕ → ℕ → ℕ
half cells tapes = cells / (2 * tapes)

-- the cells of all tapes; those behind are left over
abbrev pub tape_cells : ℕ → ℕ → ℕ
tape_cells h tapes = 2 * h * tapes

-- the cell of tape k at an offset: tape by tape from the front, lowest position first
abbrev pub cell_at : ℕ → ℕ → ℕ → ℕ
cell_at h k offset = 2 * h * k + offset

-- all cells lent, with a blank in those of the tapes
unfoldable pub blank_tapes : ℕ → ℕ → ℕ → List ℕ → List ℕ
blank_tapes h tapes blank cells = let n = tape_cells h tapes in replicate n blank ++ drop n cells

-- a machine at work: the name of its state, the offset of each head, and all cells lent
pub record Configuration : Type 0 where
  pub state : List ℕ
  pub heads : List ℕ
  pub cells : List ℕ

-- a machine at its start: each head at position 0, the input on the first tape from there, other cells of the tapes blank
unfoldable pub initial : Content → List ℕ → Configuration
unfolding half blank_tapes
initial m cells =
    let h = half (length cells) m.tapes in
    let blanks = blank_tapes h m.tapes m.blank cells in
    record { state = m.start; heads = replicate m.tapes h; cells = sets blanks (cell_at h 0 h) m.input }
