use mathlib.Core.Path.{refl}
use Rattle.assembler.proofs.FirstLines.{asked-outside}
use Rattle.diag_search.proofs.FinalSteps.{finals-passed}
use Rattle.diag_search.proofs.passes.behind_names.Goals as goal

pub returns : goal.returns
returns c = finals-passed c.args.text.now c.args.work.now c.args.s c.requires.0 _ _ c.requires.1 c.requires.2 refl (asked-outside _ _ c.line.ensures c.is_some.ensures c.if-is_some.false) c.onward.ensures
