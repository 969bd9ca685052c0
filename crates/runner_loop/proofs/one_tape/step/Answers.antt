-- Each test is that of a step, with one symbol, one direction and one head.
use mathlib.Core.Path.{refl}
use Rattle.std.proofs.lemmas.Result.{err_from_is_err_and}
use Rattle.runner_loop.proofs.OneStep.{rests, leaves, goes, step_stands}
use Rattle.runner_loop.proofs.OneTape.{one_scanned, one_written, one_left, one_moved}
use Rattle.runner_loop.proofs.one_tape.step.Goals as goal

pub returns-in_err-rule-clause-step : goal.returns-in_err-rule-clause-step
returns-in_err-rule-clause-step c =
    let p = err_from_is_err_and c.from_residual.result c.from_residual.ensures.1 in
    rw (p.1, p.2)
    (rests c.args.rules.now _ c.args.at _ _ _ (one_scanned _ c.requires.tapes _ c.args.at.heads _ _ refl)
    _ c.requires.known.at_name _ c.in_err-rule.ensures.due)

pub returns-in_err-rule-clause-kept : goal.returns-in_err-rule-clause-kept
returns-in_err-rule-clause-kept c =
    let p = err_from_is_err_and c.from_residual.result c.from_residual.ensures.1 in
    rw p.1 refl

pub returns-in_default-clause-step : goal.returns-in_default-clause-step
returns-in_default-clause-step c =
    leaves c.args.rules.now _ c.args.at _ _ _ (one_scanned _ c.requires.tapes _ c.args.at.heads _ _ refl)
    _ c.requires.known.at_name _ c.in_ok-rule.ensures.due
    _ c.direction_on_one_tape.ensures
    (one_left _ c.requires.tapes _ c.args.at.heads c.args.cells.now _ _ c.move_head.ensures c.in_default.is)

pub returns-clause-step : goal.returns-clause-step
returns-clause-step c =
    goes c.args.rules.now _ c.args.at _ _ _ (one_scanned _ c.requires.tapes _ c.args.at.heads _ _ refl)
    _ c.requires.known.at_name _ c.in_ok-rule.ensures.due
    _ c.direction_on_one_tape.ensures
    _ (one_moved _ c.requires.tapes _ c.args.at.heads c.args.cells.now _ _ c.move_head.ensures _ c.in-Some.is)
    _ c.symbol_on_one_tape.ensures
    _ (one_written _ c.requires.tapes _ c.args.at.heads _ _) _ c.next_state-state.ensures.name

pub returns-clause-heads : goal.returns-clause-heads
returns-clause-heads c =
    step_stands _ _ c.args.at.heads _ _
    (one_moved _ c.requires.tapes _ c.args.at.heads c.args.cells.now _ _ c.move_head.ensures _ c.in-Some.is) c.requires.heads
