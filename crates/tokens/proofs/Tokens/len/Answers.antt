use mathlib.Core.Path.{sym}
use Rattle.tokens.proofs.Rows.{length-rows}
use Rattle.tokens.proofs.Tokens.len.Goals as goal

pub returns-clause-tokens : goal.returns-clause-tokens
returns-clause-tokens c = sym (length-rows _ _ c.args.self.now.within)
