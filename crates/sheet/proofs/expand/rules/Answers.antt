-- The rules of the lines from here on are left.
use Rattle.sheet.proofs.CommentLaws.{inside, past}
use Rattle.sheet.proofs.RowLaws.{line_other, rule-line_put, ruling_start, ruling_on, ruled}
use Rattle.sheet.proofs.expand.rules.Goals as goal
use Rattle.sheet.proofs.expand.rules.Goals.{then-t-eq-RULE, else-t-eq-RULE}

pub loop-i-init : goal.loop-i-init
loop-i-init c = ruling_start _ _ _

pub loop-i-preserved : goal.loop-i-preserved
loop-i-preserved c =
    let on = ruling_on _ _ _ _ _ _ c.loop-i.invariant _ in
    let here = inside c.args.tokens.now _ c.loop-i-test.true in
    elim c.if-t-eq-RULE.branch [
      | then-t-eq-RULE w ↦ rw w.sheet-is
          (on _ _ _ here c.known-t.ensures (rule-line_put _ _ _ _ _ _ _ _ w.if-t-eq-RULE.true w.lead_from.ensures w.expand.ensures) c.passed-p.ensures c.next_line-i.ensures)
      | else-t-eq-RULE w ↦ rw w.sheet-is (on _ _ _ here c.known-t.ensures (line_other _ _ _ _ _ _ w.if-t-eq-RULE.false) c.passed-p.ensures c.next_line-i.ensures)
    ]

pub returns : goal.returns
returns c = ruled _ _ _ _ _ _ c.loop-i.invariant (past c.args.tokens.now _ c.loop-i-test.false)
