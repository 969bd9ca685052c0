-- A text that is opened: all of the answer is known, and the log is still to be written.
use Rattle.std.specs.Prelude.{ℕ, ◌-◌, ◌*◌, ◌≤◌, ◌≡◌, false, List, ◌++◌, length, take, replicate, Option, Some, None, IfSome}
use Rattle.diag.specs.declared.Diagnostic.{Diagnostic}
use Rattle.diag.specs.Log.{sort}
use Rattle.diag_records.specs.Unused.{unused}
use Rattle.diag_search.specs.declared.Search.{Search}
use Rattle.diag_search.specs.Pending.{pending}
use Rattle.diag_search.specs.Stands.{Stands}
use Rattle.reader_answer.specs.Answer.{read_in, leaves_work}
use Rattle.reader_steps.specs.declared.Opened.{Opened}
use Rattle.reader_steps.specs.Records.{read_records}

-- the diagnostics of a search, sorted, at the front of n records; or unused records alone
abbrev pub reported : List ℕ → List ℕ → Option Search → ℕ → List Diagnostic
reported t w None n = replicate n unused
reported t w (Some s) n = sort (take s.errors (pending t w s)) ++ replicate (n - s.errors) unused

-- all diagnostics that are pending can be reported in n records
pub record Reports (t w : List ℕ) (n : ℕ) (s : Search) : Type 0 where
  pub stands : Stands t w s
  pub all : s.errors ≡ length (pending t w s)
  pub fits : s.errors ≤ n
  pub room : 10 * s.errors ≤ length w

-- an admitted text t with work w, n records and the sheet s, and what opening it leaves
pub record Opens (t w : List ℕ) (n : ℕ) (s w' s' : List ℕ) (o : Opened) : Type 0 where
  pub answers : (log : List Diagnostic) → length log ≡ n → read_in o.answer (reported t w' o.found (length log)) s' ≡ read_records t (length w) log s
  pub reports : IfSome o.found (Reports t w' n)
  pub touches : leaves_work o.answer ≡ false
