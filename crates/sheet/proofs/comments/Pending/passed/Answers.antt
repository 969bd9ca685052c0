-- The definition makes the same tests.
use Rattle.sheet.proofs.CommentLaws.{passed-item, passed-comment, passed_blank}
use Rattle.sheet.proofs.comments.Pending.passed.Goals as goal

pub returns-then-t-ge-ITEM : goal.returns-then-t-ge-ITEM
returns-then-t-ge-ITEM c = passed-item _ _ _ _ c.next_line-block.ensures c.if-t-ge-ITEM.true

pub returns-then-t-eq-COMMENT : goal.returns-then-t-eq-COMMENT
returns-then-t-eq-COMMENT c = passed-comment _ _ _ _ c.next_line-block.ensures c.if-t-ge-ITEM.false c.if-t-eq-COMMENT.true

pub returns : goal.returns
returns c = passed_blank _ _ _ _ c.next_line-block.ensures c.if-t-ge-ITEM.false c.if-t-eq-COMMENT.false
