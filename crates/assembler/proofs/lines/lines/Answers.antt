use native.Mathlib.Omega.{arith}
use Rattle.assembler.proofs.Rows.{row_read}
use Rattle.assembler.proofs.EnteredLaws.{entering_start, entering_on, entering_end}
use Rattle.assembler.proofs.lines.lines.Goals as goal

pub loop-at-init : goal.loop-at-init
loop-at-init c = entering_start _ _ c.requires.0

pub loop-at-preserved : goal.loop-at-preserved
loop-at-preserved c =
    entering_on _ _ _ _ c.loop-at.invariant c.requires.0 _ _ _ c.loop-at-test.true c.enter.ensures
    (row_read _ _ _ _ (omega (arith, c.requires.0, c.loop-at.invariant.size, c.enter.auto.work)) c.loop-at-test.true c.token_at.ensures) c.next_line-at.ensures

pub returns : goal.returns
returns c = entering_end _ _ _ _ c.loop-at.invariant c.requires.0 c.loop-at-test.false
