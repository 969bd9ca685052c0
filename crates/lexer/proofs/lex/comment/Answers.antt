-- `lexer::lex::comment` meets its contract: by the line and its first character.
use Rattle.std.proofs.Common.{rules, ◌∙◌}
use Rattle.lexer.proofs.Pieces.{comment_empty, comment_space, comment-plain}
use Rattle.lexer.proofs.lex.comment.Goals.{else-line-at-via-then-line-at+else-starts_with, else-line-at-via-else-line-at}
use Rattle.lexer.proofs.lex.comment.Goals as goal

pub returns-then-starts_with : goal.returns-then-starts_with
returns-then-starts_with c = c.token.ensures ∙ search (rules, comment_space)

pub returns : goal.returns
returns c = c.token-2.ensures ∙ elim c.else-line-at.branch [
  | else-line-at-via-then-line-at+else-starts_with w ↦ search (rules, comment-plain)
  | else-line-at-via-else-line-at w ↦ search (rules, comment_empty)
]
