-- What is counted and what is left are all.
use Rattle.std.proofs.Common.{rules, arith, ◌<◌, ◌^◌, length}
use Rattle.sheet.proofs.CommentLaws.{many, counting_on, counting_over, counting_fits, counted_all}
use Rattle.sheet.proofs.comments.count_between.Goals as goal
use Rattle.sheet.proofs.comments.count_between.Goals.{then-at-eq-COMMENT, else-at-eq-COMMENT}

pub overflow_add-n : goal.overflow_add-n
overflow_add-n c =
    let short : length c.args.tokens.now.words.now < 2 ^ 64 = search rules in
    counting_fits _ _ _ _ _ c.loop-i.invariant _ c.loop-i-test.true c.at.ensures c.if-at-eq-COMMENT.true
    (omega (arith, short, many c.args.tokens.now, c.args.tokens.now.within))

pub loop-i-preserved : goal.loop-i-preserved
loop-i-preserved c = elim c.if-at-eq-COMMENT.branch [
  | then-at-eq-COMMENT w ↦ rw w.n-is (counting_on _ _ _ _ _ c.loop-i.invariant _ c.loop-i-test.true c.at.ensures w.if-at-eq-COMMENT.true)
  | else-at-eq-COMMENT w ↦ rw w.n-is (counting_over _ _ _ _ _ c.loop-i.invariant _ c.loop-i-test.true c.at.ensures w.if-at-eq-COMMENT.false)
]

pub returns : goal.returns
returns c = counted_all _ _ _ _ _ c.loop-i.invariant c.loop-i-test.false
