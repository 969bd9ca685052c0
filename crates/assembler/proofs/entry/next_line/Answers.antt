use Rattle.assembler.proofs.Rows.{next-item, next-comment, next-other}
use Rattle.assembler.proofs.entry.next_line.Goals as goal

pub returns-then-t-ge-ITEM : goal.returns-then-t-ge-ITEM
returns-then-t-ge-ITEM c = next-item _ _ c.if-t-ge-ITEM.true _ c.max.ensures

pub returns-then-t-eq-COMMENT : goal.returns-then-t-eq-COMMENT
returns-then-t-eq-COMMENT c = next-comment _ _ c.if-t-ge-ITEM.false c.if-t-eq-COMMENT.true

pub returns : goal.returns
returns c = next-other _ _ c.if-t-ge-ITEM.false c.if-t-eq-COMMENT.false
