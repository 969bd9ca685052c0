-- From a state on, each number has the first state that has it.
use Rattle.runner_names.specs.Rows.{FirstStates}
use Rattle.runner_names.proofs.put_states.Given as goal

abbrev pub invariant-loop-i : goal.invariant-loop-i
invariant-loop-i l = FirstStates l.sheet l.numbers l.i l.states l.row
