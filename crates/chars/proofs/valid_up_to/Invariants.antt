-- The loop's invariant: the place reached and the sizes of the code points from there on add up to what the definition says.
use Rattle.std.proofs.Common.{◌≡◌, ◌+◌, ◌-◌, ◌≤◌, length, drop}
use Rattle.chars.specs.Utf8.{sizes, decode, valid_up_to}
use Rattle.chars.proofs.valid_up_to.Given as goal

abbrev pub invariant-loop-next : goal.invariant-loop-next
invariant-loop-next l = (l.i ≤ length l.text) × (l.i + sizes (decode (drop l.i l.text)) ≡ valid_up_to l.text)

abbrev pub decreases-loop-next : goal.decreases-loop-next
decreases-loop-next l = length l.text - l.i
