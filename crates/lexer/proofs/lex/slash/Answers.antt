-- `lexer::lex::slash` meets its contract: by the character behind it.
use Rattle.std.proofs.Common.{rules, ◌∙◌}
use Rattle.lexer.proofs.Pieces.{slash_in, slash-comment, slash_sign}
use Rattle.lexer.proofs.lex.slash.Goals as goal

pub comment-requires : goal.comment-requires
comment-requires c = search (rules, slash_in)

pub returns-then-starts_with : goal.returns-then-starts_with
returns-then-starts_with c = search (rules, slash-comment)

pub returns : goal.returns
returns c = c.token.ensures ∙ search (rules, slash_sign)
