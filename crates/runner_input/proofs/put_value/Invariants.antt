-- What is left goes behind what was put: together they are the whole value.
use Rattle.std.proofs.Common.{◌-◌, ◌≤◌, length}
use Rattle.runner_input.proofs.Put.{PutSoFar}
use Rattle.runner_input.proofs.put_value.Given as goal

abbrev pub invariant-loop-c : goal.invariant-loop-c
invariant-loop-c l = record { within : l.i ≤ length l.part; goes : PutSoFar l.part l.fn.cells l.at l.cells l.to l.i l.slash }

abbrev pub decreases-loop-c : goal.decreases-loop-c
decreases-loop-c l = length l.part - l.i
