use Rattle.assembler.proofs.Passes.{none-given}
use Rattle.assembler.proofs.pass.declared.Goals as goal

pub returns-else-k-ne0 : goal.returns-else-k-ne0
returns-else-k-ne0 c = none-given _ _ _ c.requires.number c.if-k-ne0.false
