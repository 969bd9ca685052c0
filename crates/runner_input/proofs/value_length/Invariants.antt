-- What was counted and the value of what is left are the whole.
use Rattle.std.proofs.Common.{◌-◌, ◌≤◌, length}
use Rattle.runner_input.proofs.Counts.{CountedSoFar}
use Rattle.runner_input.proofs.value_length.Given as goal

abbrev pub invariant-loop-c : goal.invariant-loop-c
invariant-loop-c l = record { within : l.i ≤ length l.part; counts : CountedSoFar l.part l.total l.i l.slash }

abbrev pub decreases-loop-c : goal.decreases-loop-c
decreases-loop-c l = length l.part - l.i
