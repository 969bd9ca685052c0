use Rattle.diag_search.proofs.Steps.{name-stepped}
use Rattle.diag_search.proofs.passes.at_names.Goals as goal

pub returns-then-s : goal.returns-then-s
returns-then-s c = name-stepped c.args.text.now c.args.work.now c.args.s c.requires.0 c.requires.1 _ c.if-s.true c.name.ensures.taken c.name.ensures.search
