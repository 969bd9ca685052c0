use Rattle.diag_search.proofs.FinalSteps.{finals-stepped}
use Rattle.diag_search.proofs.passes.at_finals.Goals as goal

pub returns : goal.returns
returns c = finals-stepped c.args.text.now c.args.work.now c.args.s c.requires.0 c.requires.1 _ c.if-s.false c.onward.ensures
