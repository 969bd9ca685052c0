-- A comment's text is stored, and nothing for another token.
use borrow.Author.Rules.{rules}
use Rattle.sheet.proofs.CommentLaws.{comment_put, comment-none}
use Rattle.sheet.proofs.comments.comment.Goals as goal

ruleset laws = (rules, comment_put, comment-none)

pub returns-then-t-eq-COMMENT : goal.returns-then-t-eq-COMMENT
returns-then-t-eq-COMMENT c = search laws

pub returns-else-t-eq-COMMENT : goal.returns-else-t-eq-COMMENT
returns-else-t-eq-COMMENT c = search laws
