-- What holds while a search runs.
use Rattle.std.specs.Prelude.{ℕ, ◌≤◌, ◌<◌, ◌≡◌, List, ◌++◌, length, get_or}
use Rattle.chars.specs.Utf8.{decode}
use Rattle.language.specs.Lines.{read_lines}
use Rattle.language.specs.Assembly.{diagnostics_of}
use Rattle.language.specs.Infer.{machine_of}
use Rattle.assembler.specs.Rows.{rows}
use Rattle.assembler.specs.Entries.{entries}
use Rattle.assembler.specs.Declarations.{undeclared, declarations}
use Rattle.assembler.specs.Finals.{Laid, Interned, Marks, names_of}
use Rattle.assembler.specs.Rules.{max_transitions}
use Rattle.assembler.specs.Records.{records_of}
use Rattle.assembler.specs.Assembled.{Entered, Named, words_from, marks_from}
use Rattle.diag_search.specs.declared.Pass.TheVariants.{Finals}
use Rattle.diag_search.specs.declared.Search.{Search}
use Rattle.diag_search.specs.declared.Step.{Step}
use Rattle.diag_search.specs.Cursor.{taken}
use Rattle.diag_search.specs.Pending.{names_before, pending, left}
use Rattle.parser.specs.ItemNumbers as items

-- the rows stand in work, that of first equal words if there is F; the cursor is in one of the four passes, and in that over F
-- the marks say which names it has come by
pub record Stands (text w : List ℕ) (s : Search) : Type 0 where
  pub laid : Laid s.count (words_from (length text)) (marks_from (length text)) w
  pub names : get_or s.first items.final 0 < s.count → Interned text (rows s.count w) (words_from (length text)) w
  pub tally : s.tally.rules ≤ max_transitions
  pub behind : s.pass ≡ Finals → get_or s.first items.final 0 < s.at
  pub marks : s.pass ≡ Finals
      → Marks text (rows s.count w) (words_from (length text)) (marks_from (length text)) w (names_of (rows s.count w) (get_or s.first items.states 0)) (names_before (rows s.count w) (get_or s.first items.final 0) s.at)

-- the beginning: the outcome of assembly without its log, and a search that finds the diagnostics of the text
pub record Started (text : List ℕ) (count : ℕ) (w₀ w : List ℕ) (s : Search) : Type 0 where
  pub many : s.count ≡ count
  pub errors : s.errors ≡ length (diagnostics_of (read_lines (decode text)))
  pub rules : s.rules ≡ length (machine_of (read_lines (decode text))).rules
  pub entered : Entered count w₀ w
  pub named : Named text count w s.first s.errors s.rules
  pub first : s.first ≡ declarations count undeclared (entries (rows count w))
  pub stands : Stands text w s
  pub whole : pending text w s ≡ records_of (diagnostics_of (read_lines (decode text)))

-- one step: what it found and what is still to be found is what was to be found
pub record Stepped (text w₀ w : List ℕ) (s : Search) (r : Step) : Type 0 where
  pub stands : Stands text w r.search
  pub found : pending text w₀ s ≡ taken r ++ pending text w r.search
  pub less : left r.search < left s
  pub size : length w ≡ length w₀
