use Rattle.std.proofs.Common.{◌-◌}
use Rattle.tokens.specs.Listed.{tokens_of}
use Rattle.sheet.proofs.WheelLaws.{Filling}
use Rattle.sheet.proofs.wheels.wheels.Given as goal

abbrev pub invariant-loop-t : goal.invariant-loop-t
invariant-loop-t l = Filling (tokens_of l.tokens) l.tokens.count l.at l.n l.entries l.members l.i l.t

abbrev pub decreases-loop-t : goal.decreases-loop-t
decreases-loop-t l = l.n - l.t
