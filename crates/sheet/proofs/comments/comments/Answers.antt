-- The comments that are left go behind what is stored.
use Rattle.sheet.proofs.CommentLaws.{gather-on, gathered}
use Rattle.sheet.proofs.comments.comments.Goals as goal

pub loop-i-preserved : goal.loop-i-preserved
loop-i-preserved c = gather-on _ _ _ _ _ _ c.loop-i.invariant _ _ c.loop-i-test.true c.at.ensures c.comment.ensures

pub returns : goal.returns
returns c = gathered _ _ _ _ _ _ c.loop-i.invariant c.loop-i-test.false
