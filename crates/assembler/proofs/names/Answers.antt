use Rattle.assembler.proofs.AssembledLaws.{all_named}
use Rattle.assembler.proofs.names.Goals as goal

pub returns : goal.returns
returns c = (c.intern.ensures.0, all_named c.args.text.now _ _ c.requires.0 _ _ _ _ c.intern.ensures.0 c.intern.ensures.1)
