-- The loop's invariant: only characters of the set stand before here.
use Rattle.std.proofs.Common.{◌-◌, length}
use Rattle.chars.specs.Decoded.{Passes}
use Rattle.chars.proofs.plain_run.Given as goal

abbrev pub invariant-loop-next : goal.invariant-loop-next
invariant-loop-next l = Passes l.text l.fn.at l.i

abbrev pub decreases-loop-next : goal.decreases-loop-next
decreases-loop-next l = length l.text - l.i
