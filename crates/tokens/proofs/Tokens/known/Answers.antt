use Rattle.tokens.proofs.Rows.{row_read}
use Rattle.tokens.proofs.Tokens.known.Goals as goal

pub returns : goal.returns
returns c = row_read _ _ _ _ c.args.self.now.within c.requires c.token_at.ensures
