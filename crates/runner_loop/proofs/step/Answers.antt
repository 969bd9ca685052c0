-- Each test is that of a step: which rule is due, if a step is left, and whether a head would leave its tape.
use mathlib.Core.Path.{refl}
use Rattle.std.proofs.lemmas.Result.{err_from_is_err_and}
use Rattle.runner_loop.proofs.OneStep.{rests, leaves, goes, step_stands, left_none, moved_some}
use Rattle.runner_loop.proofs.step.Goals as goal

pub returns-in_err-rule-clause-step : goal.returns-in_err-rule-clause-step
returns-in_err-rule-clause-step c =
    let p = err_from_is_err_and c.from_residual.result c.from_residual.ensures.1 in
    rw (p.1, p.2)
    (rests c.args.rules.now _ c.args.at _ _ _ c.scanned-symbols.ensures _ c.requires.known.at_name _ c.in_err-rule.ensures.due)

pub returns-in_err-rule-clause-kept : goal.returns-in_err-rule-clause-kept
returns-in_err-rule-clause-kept c =
    let p = err_from_is_err_and c.from_residual.result c.from_residual.ensures.1 in
    rw p.1 refl

pub returns-in_default-clause-step : goal.returns-in_default-clause-step
returns-in_default-clause-step c =
    leaves c.args.rules.now _ c.args.at _ _ _ c.scanned-symbols.ensures _ c.requires.known.at_name _ c.in_ok-rule.ensures.due
    _ c.moves.ensures (left_none _ _ _ c.moved.ensures c.in_default.is)

-- where a head would leave its tape nothing was written
pub returns-in_default-clause-kept : goal.returns-in_default-clause-kept
returns-in_default-clause-kept c = refl

pub returns-clause-step : goal.returns-clause-step
returns-clause-step c =
    goes c.args.rules.now _ c.args.at _ _ _ c.scanned-symbols.ensures _ c.requires.known.at_name _ c.in_ok-rule.ensures.due
    _ c.moves.ensures _ (moved_some _ _ _ c.moved.ensures _ c.in-Some.is) _ c.writes.ensures _ c.write.ensures
    _ c.next_state-state.ensures.name

pub returns-clause-heads : goal.returns-clause-heads
returns-clause-heads c = step_stands _ _ _ _ _ (moved_some _ _ _ c.moved.ensures _ c.in-Some.is) c.requires.heads
