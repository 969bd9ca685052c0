use Rattle.assembler.proofs.AssembledLaws.{finals_unsaid}
use Rattle.assembler.proofs.FirstLines.{asked-outside}
use Rattle.assembler.proofs.finals.finals.Goals as goal

pub returns-else-is_some : goal.returns-else-is_some
returns-else-is_some c = finals_unsaid _ _ _ _ _ c.args.tokens.now.within (asked-outside _ _ c.line.ensures c.is_some.ensures c.if-is_some.false)
