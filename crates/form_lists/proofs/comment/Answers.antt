-- No bytes at the place are no characters.
use Rattle.form_lists.proofs.Comments.{comment_empty, comment_text_lem}
use Rattle.form_lists.proofs.comment.Goals as goal

pub returns-then-is_empty : goal.returns-then-is_empty
returns-then-is_empty c = comment_empty _ _ c.requires _ c.part-t.ensures _ _ c.if-is_empty.ensures c.bytes.ensures

pub returns : goal.returns
returns c = comment_text_lem _ _ c.requires _ c.part-t.ensures _ _ _ c.if-is_empty.ensures c.bytes-2.ensures c.bytes-3.ensures
