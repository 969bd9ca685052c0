-- All that the program `run` prints for a description, so many steps and so many cells: a refusal, diagnostics, or a run. The
-- refusals are those of an entry of a batch (`entry_refusal`), and the run is `run_on`.
use Rattle.std.specs.Prelude.{ℕ, ◌*◌, min, true, false, List, [], length, ltb, Some, None}
use Rattle.language.specs.Outcome.{refusal_number, refusal_value, work_needed, zeros, ReadOutcome, read_outcome}
use Rattle.language.specs.Plain.{Piece, ◌⨾◌}
use Rattle.running.specs.Run.{run_on}
use Rattle.running.specs.Refusals.{unfit_number}
use Rattle.running.specs.Batch.{content_of_text, EntryRefusal, not_read, diagnostics, unfit, entry_refusal}
use Rattle.list_lines.specs.Listing.{refused_line, bytes_line, diagnostic_lines}
use Rattle.run_arguments.specs.Arguments.{max_cells}
use Rattle.run_lines.specs.Lines.{ended_lines}

-- what is printed of an entry that is refused: the list program's lines of its diagnostics, or the refusal's number and value
unfoldable pub refusal_lines : List ℕ → List ℕ → EntryRefusal → Piece
unfolding refused_line bytes_line diagnostic_lines
refusal_lines text log (not_read r) = refused_line (refusal_number r) (refusal_value r)
refusal_lines text log (diagnostics n) = bytes_line text ⨾ diagnostic_lines text n log
refusal_lines text log (unfit u) = refused_line (unfit_number u) 0

-- what is printed of a text that was read: why it is refused on so many cells, or its run with so many steps
unfoldable pub lines : List ℕ → ℕ → ℕ → ReadOutcome (List ℕ) → Piece
unfolding entry_refusal refusal_lines content_of_text run_on ended_lines
lines text steps cells o = elim (entry_refusal o.reply text cells) [
  | Some r ↦ refusal_lines text o.log r
  | None ↦ (let m = content_of_text text in ended_lines text m (run_on m steps (zeros cells)))
]

-- the longest text that is taken
abbrev pub max_text : ℕ
max_text = 65536

-- the records of the log
abbrev pub max_records : ℕ
max_records = 1024

-- the words of the sheet
abbrev pub max_words : ℕ
max_words = 262144

-- what is printed of a text that is not longer: a reading call has the work that the longest needs, and a log and a sheet of
-- those sizes
unfoldable pub text_lines : List ℕ → ℕ → ℕ → Piece
unfolding lines read_outcome
text_lines text steps cells =
    lines text steps cells (read_outcome text (work_needed max_text) (zeros (5 * max_records)) (zeros max_words))

-- what is printed: a longer text is refused as one above the reader's limit is; and of more cells there are the most
unfoldable pub printed : List ℕ → ℕ → ℕ → List ℕ
unfolding refused_line text_lines
printed text steps cells = elim (ltb max_text (length text)) [
  | true ↦ refused_line 1 0 []
  | false ↦ text_lines text steps (min cells max_cells) []
]
