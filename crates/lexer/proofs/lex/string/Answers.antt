-- `lexer::lex::string` meets its contract: by the string's end.
use Rattle.std.proofs.Common.{rules, ◌∙◌}
use Rattle.lexer.proofs.Pieces.{string_token, string-rest}
use Rattle.lexer.proofs.lex.string.Goals as goal

pub returns-in-Some : goal.returns-in-Some
returns-in-Some c = c.token.ensures ∙ search (rules, string_token)

pub returns : goal.returns
returns c = c.token-2.ensures ∙ search (rules, string-rest)
