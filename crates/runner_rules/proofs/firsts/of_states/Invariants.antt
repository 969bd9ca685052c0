-- Each number so far has what its state says.
use Rattle.runner_rules.specs.Firsts.{SaysStates}
use Rattle.runner_rules.proofs.firsts.of_states.Given as goal

-- the numbers so far have their states
abbrev pub invariant-loop-number : goal.invariant-loop-number
invariant-loop-number l = SaysStates l.sheet l.positions l.row l.number
