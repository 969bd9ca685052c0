use Prim.Native.Nat.{◌-◌}
use Rattle.assembler.proofs.EnteredLaws.{Entering}
use Rattle.assembler.proofs.lines.lines.Given as goal

abbrev pub invariant-loop-at : goal.invariant-loop-at
invariant-loop-at l = Entering l.count l.fn.work l.work l.at

abbrev pub decreases-loop-at : goal.decreases-loop-at
decreases-loop-at l = l.count - l.at
