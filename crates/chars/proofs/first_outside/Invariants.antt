-- The loop's invariant: the first place outside the set from here on is the first of the whole.
use Rattle.std.proofs.Common.{◌≡◌, ◌-◌, ◌≤◌, length, drop}
use Rattle.chars.specs.Utf8.{decode}
use Rattle.chars.specs.Class.{outside_from, first_outside}
use Rattle.chars.proofs.first_outside.Given as goal

abbrev pub invariant-loop-c : goal.invariant-loop-c
invariant-loop-c l = (l.i ≤ length l.text) × (outside_from l.i (decode (drop l.i l.text)) ≡ first_outside l.text)

abbrev pub decreases-loop-c : goal.decreases-loop-c
decreases-loop-c l = length l.text - l.i
