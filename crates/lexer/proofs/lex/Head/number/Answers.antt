-- `lexer::lex::Head::number` meets its contract: the scan's two parts are the token's.
use Rattle.std.proofs.Common.{◌∙◌}
use Rattle.lexer.proofs.Pieces.{number_at}
use Rattle.lexer.proofs.lex.Head.number.Goals as goal

pub returns : goal.returns
returns c = let h = c.args.self.now in c.token.ensures ∙ number_at _ _ _ _ _ _ h.behind h.read c.requires c.digits-end.ensures.end c.digits-end.ensures.value
