-- An admitted text that was entered: what its search and its machine start from.
use Rattle.std.specs.Prelude.{ℕ, ◌*◌, ◌≤◌, ◌≡◌, List, [], length}
use Rattle.language.specs.Assembly.{diagnostics_of}
use Rattle.language.specs.Infer.{machine_of}
use Rattle.assembler.specs.Records.{records_of}
use Rattle.diag_search.specs.declared.Search.{Search}
use Rattle.diag_search.specs.Pending.{pending}
use Rattle.diag_search.specs.Stands.{Stands}
use Rattle.reader_theorems.specs.Ready.{lines_of, Ready}

-- the search finds the diagnostics of the text and counts them, there is room to sort them, and without any the machine is ready
-- to be written
pub record Begun (text w : List ℕ) (s : Search) : Type 0 where
  pub stands : Stands text w s
  pub whole : pending text w s ≡ records_of (diagnostics_of (lines_of text))
  pub errors : s.errors ≡ length (diagnostics_of (lines_of text))
  pub room : 10 * s.errors ≤ length w
  pub rules : s.rules ≡ length (machine_of (lines_of text)).rules
  pub ready : diagnostics_of (lines_of text) ≡ [] → Ready text s.count w s.first
