-- What the code answers, in the definitions' terms: paper 02's numbers and values are theirs.
use Rattle.std.specs.Prelude.{ℕ, List, Result, Ok, Err}
use Rattle.reader_answer.specs.Answer.{refusal_in}
use Rattle.running.specs.Run as R
use Rattle.running.specs.Refusals as F
use Rattle.running.specs.Batch as B
use Rattle.runner_answer.specs.declared.Stop.{Stop}
use Rattle.runner_answer.specs.declared.Stop.TheVariants.{Halted, Stuck, Spent, Edge}
use Rattle.runner_answer.specs.declared.Unfit.{Unfit}
use Rattle.runner_answer.specs.declared.Unfit.TheVariants.{WrongTapes, WrongArity, TooFewCells}
use Rattle.runner_answer.specs.declared.EntryRefusal.{EntryRefusal}
use Rattle.runner_answer.specs.declared.EntryRefusal.TheVariants as E
use Rattle.runner_answer.specs.declared.BatchRefusal.{BatchRefusal}
use Rattle.runner_answer.specs.declared.BatchRefusal.TheVariants as C

-- why a run stops
abbrev pub stop_in : Stop → R.Stop
stop_in Halted = R.halted
stop_in Stuck = R.stuck
stop_in Spent = R.spent
stop_in Edge = R.edge

-- why a machine cannot run
abbrev pub unfit_in : Unfit → F.Unfit
unfit_in WrongTapes = F.wrong_tapes
unfit_in WrongArity = F.wrong_arity
unfit_in TooFewCells = F.too_few_cells

-- why an entry is refused
abbrev pub entry_refusal_in : EntryRefusal → B.EntryRefusal
entry_refusal_in (E.Reading r) = B.not_read (refusal_in r)
entry_refusal_in (E.Diagnostics n) = B.diagnostics n
entry_refusal_in (E.Unfit u) = B.unfit (unfit_in u)

-- why a batch is refused
abbrev pub batch_refusal_in : BatchRefusal → B.BatchReply
batch_refusal_in C.NotLent = B.not_lent
batch_refusal_in (C.Entry i r) = B.refused_at i (entry_refusal_in r)

-- the reply of a batch
abbrev pub batch_reply_in : Result (Unit {0}) BatchRefusal → B.BatchReply
batch_reply_in (Ok u) = B.ran
batch_reply_in (Err r) = batch_refusal_in r

-- the answer, and the rows that are left with it
abbrev pub batch_in : Result (Unit {0}) BatchRefusal → List ℕ → List ℕ → List ℕ → List ℕ → B.BatchOutcome
batch_in a log sheet cells answers =
    record { reply = batch_reply_in a; log = log; sheet = sheet; cells = cells; answers = answers }
