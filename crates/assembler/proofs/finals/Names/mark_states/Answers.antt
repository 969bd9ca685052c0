use Rattle.assembler.proofs.MarkLaws.{marks-cleared}
use Rattle.assembler.proofs.FinalLaws.{marking_start, marking_on, marking_stop, marking_end}
use Rattle.assembler.proofs.finals.Names.mark_states.Goals as goal

pub loop-i-init : goal.loop-i-init
loop-i-init c = marking_start c.args.self.now _ _ (marks-cleared c.args.self.now _ _ _ c.requires.room (c.fill.ensures.after (λ y e. e)))

pub returns-then-at-eq-NEWLINE : goal.returns-then-at-eq-NEWLINE
returns-then-at-eq-NEWLINE c = marking_stop c.args.self.now _ _ _ c.loop-i.invariant _ c.loop-i-test.true c.at.ensures c.if-at-eq-NEWLINE.true

pub loop-i-preserved : goal.loop-i-preserved
loop-i-preserved c = marking_on c.args.self.now _ _ _ c.loop-i.invariant _ _ c.loop-i-test.true c.at.ensures c.if-at-eq-NEWLINE.false c.mark_state.ensures

pub returns : goal.returns
returns c = marking_end c.args.self.now _ _ _ c.loop-i.invariant c.loop-i-test.false
