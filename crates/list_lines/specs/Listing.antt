-- Paper 01, "The list program": what it prints, from the answer of the reading call as a caller has it: reply, words of the log
-- and the sheet, and the text.
-- A piece is bytes here: all that is quoted is ASCII, and names are the text's bytes.
use Rattle.std.specs.Prelude.{ℕ, ◌/◌, ◌*◌, min, Bool, true, false, ◌&&◌, ◌||◌, List, [], ◌∷◌, map, eqb, ltb, length}
use Rattle.lexer.specs.Tokens.{Span}
use Rattle.lexer.specs.Places.{part}
use Rattle.machine.specs.declared.Counts.{Counts}
use Rattle.language.specs.Outcome.{refusal_number, refusal_value, machine, diagnosed, refused, work_needed, zeros, ReadOutcome, read_outcome}
use Rattle.language.specs.Agreement.{groups, records, at, place_at, dir_of}
use Rattle.language.specs.Plain.{Piece, ◌⨾◌, nothing, say, verbatim, end, each, direction}
use Rattle.emit.specs.Decimal.{digits_from}
use Rattle.sheet_view.specs.Sections.{sigma_from, gamma_from, rules_from}
use Rattle.sheet_view.specs.Rules.{from_of, to_of, arity_of, actions_from}
use Rattle.positions.specs.Positions.{line_column}

-- ---- numbers, names and lists

-- a number in decimal
unfoldable pub number : ℕ → Piece
unfolding digits_from
number n = digits_from 19 n

-- the bytes at a place; none where it is not inside the text
unfoldable pub named : List ℕ → Span → Piece
unfolding part
named text p = verbatim (part text p.start p.end)

-- members parted by a byte
unfoldable pub parted : ℕ → List Piece → Piece
parted sep [] = nothing
parted sep (p ∷ []) = p
parted sep (p ∷ q ∷ ps) = p ⨾ (λ rest. sep ∷ rest) ⨾ parted sep (q ∷ ps)

-- the names of states, all or only the final ones
unfoldable pub names : List ℕ → Bool → List (List ℕ) → List Piece
unfolding named
names text all [] = []
names text all (s ∷ ss) = elim (all || eqb (at s 2) 1) [ true ↦ named text (place_at s 0) ∷ names text all ss | false ↦ names text all ss ]

-- the codes in word o of each record
unfoldable pub codes : ℕ → List (List ℕ) → List Piece
unfolding number
codes o rs = map (λ r. number (at r o)) rs

-- the moves of actions
unfoldable pub moves : List (List ℕ) → List Piece
moves rs = map (λ r. direction (dir_of (at r 6))) rs

-- ---- diagnostics

-- a place
unfoldable pub place : Span → Piece
unfolding number
place p = number p.start ⨾ say " " ⨾ number p.end

-- a related place, or that there is none
unfoldable pub related : Span → Piece
unfolding place
related p = elim (eqb p.start 4294967295 && eqb p.end 4294967295) [ true ↦ say "none none" | false ↦ place p ]

-- line and column of an offset
unfoldable pub position : List ℕ → ℕ → Piece
unfolding number line_column
position text o = number (line_column text o).line ⨾ say ":" ⨾ number (line_column text o).column

-- a diagnostic: code, place, related place, and the position of its start
unfoldable pub diagnostic : List ℕ → List ℕ → Piece
unfolding number place related position
diagnostic text d =
    say "diagnostic=" ⨾ number (at d 0) ⨾ say " " ⨾ place (place_at d 1) ⨾ say " " ⨾ related (place_at d 3) ⨾ say " " ⨾ position text (at d 1) ⨾ end

-- how many there are, and each of those that the log holds
unfoldable pub diagnostic_lines : List ℕ → ℕ → List ℕ → Piece
unfolding number each diagnostic groups
diagnostic_lines text n log = say "diagnostics=" ⨾ number n ⨾ end ⨾ each (diagnostic text) (groups 5 (min n (length log / 5)) log)

-- ---- a machine

-- a transition: from, codes read, to, codes written, directions
unfoldable pub transition : List ℕ → List ℕ → Piece
unfolding named parted codes moves groups
transition text r =
    let actions = groups 7 (arity_of r) (actions_from r) in
    say "transition=" ⨾ named text (from_of r) ⨾ say " " ⨾ parted 0x2C (codes 0 actions) ⨾ say " " ⨾ named text (to_of r)
    ⨾ say " " ⨾ parted 0x2C (codes 3 actions) ⨾ say " " ⨾ parted 0x2C (moves actions) ⨾ end

-- n states: all, the final ones, and the start
unfoldable pub state_lines : List ℕ → ℕ → Span → List ℕ → Piece
unfolding names named parted groups
state_lines text n start states =
    let ss = groups 3 n states in
    say "states=" ⨾ parted 0x20 (names text true ss) ⨾ end ⨾ say "finals=" ⨾ parted 0x20 (names text false ss) ⨾ end ⨾ say "start=" ⨾ named text start ⨾ end

-- n symbols of Σ and m of Γ
unfoldable pub symbol_lines : ℕ → List ℕ → ℕ → List ℕ → Piece
unfolding codes parted groups
symbol_lines n sigma m gamma = say "sigma=" ⨾ parted 0x20 (codes 0 (groups 3 n sigma)) ⨾ end ⨾ say "gamma=" ⨾ parted 0x20 (codes 0 (groups 3 m gamma)) ⨾ end

-- the lines of n transitions
unfoldable pub transition_lines : List ℕ → ℕ → List ℕ → Piece
unfolding number each transition records
transition_lines text n rules = say "transitions=" ⨾ number n ⨾ end ⨾ each (transition text) (records n rules)

-- the lines of a machine, from the sections of its sheet
unfoldable pub machine_lines : List ℕ → Counts → Span → List ℕ → Piece
unfolding state_lines symbol_lines transition_lines
machine_lines text n start sheet =
    say "diagnostics=0" ⨾ end ⨾ state_lines text n.states start sheet
    ⨾ symbol_lines n.sigma (sigma_from n sheet) n.gamma (gamma_from n sheet) ⨾ transition_lines text n.rules (rules_from n sheet)

-- ---- the whole

-- the line that stands alone: a refusal's number and value
unfoldable pub refused_line : ℕ → ℕ → Piece
unfolding number
refused_line n v = say "refused=" ⨾ number n ⨾ say " " ⨾ number v ⨾ end

-- the first line of all others: the text's length
unfoldable pub bytes_line : List ℕ → Piece
unfolding number
bytes_line text = say "bytes=" ⨾ number (length text) ⨾ end

-- what is printed for an answer, before what follows
unfoldable pub lines : List ℕ → ReadOutcome (List ℕ) → Piece
unfolding refused_line bytes_line diagnostic_lines machine_lines
lines text r = elim r.reply [
  | machine h ↦ bytes_line text ⨾ machine_lines text h.counts h.start r.sheet
  | diagnosed n ↦ bytes_line text ⨾ diagnostic_lines text n r.log
  | refused x ↦ refused_line (refusal_number x) (refusal_value x)
]

-- what is printed for an answer
unfoldable pub listing : List ℕ → ReadOutcome (List ℕ) → List ℕ
unfolding lines
listing text r = lines text r []

-- paper 01, "The list program": the longest text that is taken, records of the log, and words of the sheet
abbrev pub max_input : ℕ
max_input = 2048

abbrev pub max_records : ℕ
max_records = 1024

abbrev pub max_words : ℕ
max_words = 16384

-- what the list program prints: a text above 2,048 bytes is refused as row 1 says; else a reading call has the work that such a
-- text needs, and a log and a sheet of those sizes
unfoldable pub listed : List ℕ → List ℕ
unfolding refused_line listing read_outcome
listed text = elim (ltb max_input (length text)) [
  | true ↦ refused_line 1 0 []
  | false ↦ listing text (read_outcome text (work_needed max_input) (zeros (5 * max_records)) (zeros max_words))
]
