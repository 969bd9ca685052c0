use Rattle.std.proofs.Common.{◌-◌}
use Rattle.tokens.specs.Listed.{tokens_of}
use Rattle.sheet.proofs.WheelLaws.{Ending}
use Rattle.sheet.proofs.wheels.next_entry.Given as goal

abbrev pub invariant-loop-i : goal.invariant-loop-i
invariant-loop-i l = Ending (tokens_of l.tokens) l.tokens.count l.e l.i

abbrev pub decreases-loop-i : goal.decreases-loop-i
decreases-loop-i l = l.tokens.count - l.i
