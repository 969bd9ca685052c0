-- The comments before the declaration, and its own.
use Rattle.sheet.proofs.CommentLaws.{declared_put}
use Rattle.sheet.proofs.comments.declared.Goals as goal

pub returns : goal.returns
returns c = declared_put _ _ _ _ c.if-i-from.false c.if-end-i.false c.requires _ _ _ c.comments-2.ensures c.comments-3.ensures
