-- The moves that are left go behind what is written.
use Rattle.std.proofs.Common.{arith}
use Rattle.form_lists.proofs.Lists.{moves-start, moves-on, moves-end}
use Rattle.form_lists.proofs.directions.Goals as goal

pub loop-i-init : goal.loop-i-init
loop-i-init c = moves-start _ _ _ _ _

pub loop-i-preserved : goal.loop-i-preserved
loop-i-preserved c =
    moves-on _ _ _ _ _ c.loop-i-test.true (omega arith) _ c.word.ensures _ _ _ _ _ c.comma.ensures c.loop-i.invariant (rw c.direction_of.ensures at c.direction.ensures)

pub returns : goal.returns
returns c = moves-end _ _ _ _ _ _ _ _ c.loop-i-test.false c.loop-i.invariant
