use Rattle.diag.proofs.Appending.{appends_as, appends_nothing}
use Rattle.assembler.proofs.FailureLaws.{line-failed, line-passed}
use Rattle.assembler.proofs.failures.line_error.Goals as goal

pub returns-then-t-ge-FAILED : goal.returns-then-t-ge-FAILED
returns-then-t-ge-FAILED c = appends_as _ _ _ _ c.append.ensures (line-failed _ _ _ c.if-t-ge-FAILED.true c.span_of.ensures c.error.ensures)

pub returns-else-t-ge-FAILED : goal.returns-else-t-ge-FAILED
returns-else-t-ge-FAILED c = appends_nothing _ _ (line-passed _ c.if-t-ge-FAILED.false)
