-- What was lent is tested, all entries are read, and then they run.
use Rattle.std.proofs.Common.{refl, sym, ◌∙◌}
use borrow.Author.Tests.{eqb-true}
use Rattle.running.specs.Batch.{ran}
use Rattle.runner.proofs.AllRead.{read_twice}
use Rattle.runner.proofs.WholeBatch.{too_little, one_refused, all_ran}
use Rattle.runner.proofs.batch.Goals as goal

pub returns-then-not-enough : goal.returns-then-not-enough
returns-then-not-enough c = (too_little _ c.if-not-enough.ensures, λ _. refl)

pub returns-in-Err : goal.returns-in-Err
returns-in-Err c = (one_refused _ c.if-not-enough.ensures _ _ _ _ c.in-Err.ensures.outcome, c.in-Err.ensures.work)

pub runs-requires-clause-read : goal.runs-requires-clause-read
runs-requires-clause-read c =
    rw c.readings.auto.work (read_twice _ _ _ _ _ _ _ (sym c.in_default.ensures.outcome))

pub returns : goal.returns
returns c =
    let r = c.runs.ensures in
    let o = all_ran _ c.if-not-enough.ensures _ _ c.in_default.ensures.outcome in (
      (λ j. record { reply = ran; log = r.log j; sheet = r.sheet j; cells = r.ran.0 j; answers = r.ran.1 j }) ∙ o,
      λ h. r.work (eqb-true _ _ h) ∙ c.in_default.ensures.work h,
    )
