-- The minute is outside the windows passed by.
use Rattle.std.proofs.Common.{◌≡◌, false}
use Rattle.hours.proofs.Waits.{open_at}
use Rattle.hours.proofs.Hours.is_inside.Given as goal

abbrev pub invariant-loop-i : goal.invariant-loop-i
invariant-loop-i l = open_at l.self.opens l.self.closes l.i l.minute ≡ false
