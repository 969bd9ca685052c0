-- `runner_names::put_states` meets its contract: from some state on, each number has the first state that has it.
use native.Mathlib.Omega.{arith}
use Rattle.runner_names.proofs.StateLaws.{states_none, states_more}
use Rattle.runner_names.proofs.put_states.Goals as goal

pub loop-i-init : goal.loop-i-init
loop-i-init c = states_none _ _ _ _ _ (c.fill.ensures.after (λ _ e. e))

pub loop-i-preserved : goal.loop-i-preserved
loop-i-preserved c =
    states_more _ _ _ _ _ _ c.requires (omega arith) (omega arith) (omega arith) _ c.state_at.ensures.0 c.loop-i.invariant
