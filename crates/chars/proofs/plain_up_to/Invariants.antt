-- The loop's invariant: only characters of the set stand before here.
use Rattle.std.proofs.Common.{◌-◌, length}
use Rattle.chars.specs.Decoded.{Passes}
use Rattle.chars.proofs.plain_up_to.Given as goal

abbrev pub invariant-loop-at : goal.invariant-loop-at
invariant-loop-at l = Passes l.text 0 l.at

abbrev pub decreases-loop-at : goal.decreases-loop-at
decreases-loop-at l = length l.text - l.at
