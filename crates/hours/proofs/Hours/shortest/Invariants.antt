-- The best so far is the least wait to one of the windows passed by.
use Rattle.std.proofs.Common.{◌≡◌}
use Rattle.hours.proofs.Waits.{least_to}
use Rattle.hours.proofs.Hours.shortest.Given as goal

abbrev pub invariant-loop-i : goal.invariant-loop-i
invariant-loop-i l = l.best ≡ least_to l.self.opens l.self.closes l.i l.minute
