use Rattle.std.proofs.Common.{◌-◌}
use Rattle.infer.proofs.WalkLaws.{Mentioning}
use Rattle.infer.proofs.names.Names.mentions.Given as goal

abbrev pub invariant-loop-e : goal.invariant-loop-e
invariant-loop-e l = Mentioning l.self l.e l.marks l.out l.fn.marks l.fn.out

abbrev pub decreases-loop-e : goal.decreases-loop-e
decreases-loop-e l = l.self.tokens.count - l.e
