-- The members that are left end the set.
use Rattle.sheet.proofs.CommentLaws.{past}
use Rattle.sheet.proofs.WheelLaws.{next-symbol, ending_start, ending_on, ending_stop, ending_past}
use Rattle.sheet.proofs.wheels.next_entry.Goals as goal
use Rattle.sheet.proofs.wheels.next_entry.Goals.{then-loop-i-test+else-at-eq-COMMA, else-loop-i-test}

pub returns-then-at-ne-L_BRACE : goal.returns-then-at-ne-L_BRACE
returns-then-at-ne-L_BRACE c = next-symbol _ _ _ c.at.ensures c.if-at-ne-L_BRACE.true

pub loop-i-init : goal.loop-i-init
loop-i-init c = ending_start _ _ _ _ c.at.ensures c.if-at-ne-L_BRACE.false c.requires

pub loop-i-preserved : goal.loop-i-preserved
loop-i-preserved c = ending_on _ _ _ _ c.loop-i.invariant _ c.loop-i-test.true c.at-in-loop-i.ensures c.if-at-eq-COMMA.true

pub returns : goal.returns
returns c = elim c.loop-i-test.branch [
  | then-loop-i-test+else-at-eq-COMMA w ↦ ending_stop _ _ _ _ c.loop-i.invariant _ w.at-in-loop-i.ensures w.if-at-eq-COMMA.false
  | else-loop-i-test w ↦ ending_past _ _ _ _ c.loop-i.invariant (past c.args.tokens.now _ w.loop-i-test.false)
]
