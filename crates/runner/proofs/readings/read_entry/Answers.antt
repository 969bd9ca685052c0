-- The answer of the reading call, and the test of a machine, give the definition's outcome.
use Rattle.std.proofs.Common.{Ok, Some, None, refl, ap, ◌∙◌}
use Rattle.std.proofs.lemmas.Result.{err_from_is_err_and}
use Rattle.runner.proofs.OneRead.{not_read, with_diagnostics, machine_tested, ready}
use Rattle.runner.proofs.readings.read_entry.Goals as goal

pub returns-in_err-answer-clause-outcome : goal.returns-in_err-answer-clause-outcome
returns-in_err-answer-clause-outcome c =
    let p = err_from_is_err_and c.from_residual.result c.from_residual.ensures.1 in
    rw (p.1, p.2) (not_read _ _ _ _ _ c.read.result _ _ c.read.ensures.0 _ c.in_err-answer.was)

pub returns-in-Diagnostics-clause-outcome : goal.returns-in-Diagnostics-clause-outcome
returns-in-Diagnostics-clause-outcome c =
    with_diagnostics _ _ _ _ _ c.read.result _ _ c.read.ensures.0 _ (c.in_ok-answer.was ∙ ap Ok c.in-Diagnostics.is)

pub returns-in-Some-clause-outcome : goal.returns-in-Some-clause-outcome
returns-in-Some-clause-outcome c =
    machine_tested _ _ _ _ _ c.read.result _ _ c.read.ensures.0 _ (c.in_ok-answer.was ∙ ap Ok c.in-Machine.is)
    (Some c.in-Some.unfit) c.in-Some.ensures

pub returns-in-None-clause-outcome : goal.returns-in-None-clause-outcome
returns-in-None-clause-outcome c =
    machine_tested _ _ _ _ _ c.read.result _ _ c.read.ensures.0 _ (c.in_ok-answer.was ∙ ap Ok c.in-Machine.is) None c.in-None.ensures

pub returns-in-None-clause-accepted : goal.returns-in-None-clause-accepted
returns-in-None-clause-accepted c =
    ready _ _ _ _ _ c.read.result _ _ c.read.ensures.0 _ (c.in_ok-answer.was ∙ ap Ok c.in-Machine.is) None c.in-None.ensures refl
