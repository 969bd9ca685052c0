-- One more number has what its state says.
use Rattle.runner_rules.proofs.Row.{states_next}
use Rattle.runner_rules.proofs.firsts.of_states.Goals as goal

pub loop-number-preserved : goal.loop-number-preserved
loop-number-preserved c =
    states_next c.args.sheet.now c.args.positions.now _ _ _ _ _ c.is_final-is_final.ensures c.from.ensures c.loop-number.invariant c.put.ensures
