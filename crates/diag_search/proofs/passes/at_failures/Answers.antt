use Rattle.diag_search.proofs.Steps.{failure-stepped, failures_stepped}
use Rattle.diag_search.proofs.passes.at_failures.Goals as goal

pub returns-then-s : goal.returns-then-s
returns-then-s c = failure-stepped c.args.text.now c.args.work.now c.args.s c.requires.0 c.requires.1 _ c.if-s.true c.failure.ensures.taken c.failure.ensures.search

pub returns : goal.returns
returns c = failures_stepped c.args.text.now c.args.work.now c.args.s c.requires.0 c.requires.1 _ c.if-s.false c.onward.ensures
