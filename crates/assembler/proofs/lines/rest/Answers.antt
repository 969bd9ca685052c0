use native.Mathlib.Omega.{arith}
use Rattle.assembler.proofs.RowWords.{part-tokens}
use Rattle.assembler.proofs.lines.rest.Goals as goal

pub returns : goal.returns
returns c = part-tokens _ _ _ c.args.tokens.now.within (omega (arith, c.requires))
