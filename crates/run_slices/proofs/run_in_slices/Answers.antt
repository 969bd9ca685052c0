-- The run from the start, by the rules of the same text, is that of the machine.
use Rattle.running.proofs.Starts.{fit_tapes}
use Rattle.runner_loop.proofs.Starts.{entry_is}
use Rattle.run_slices.proofs.run_in_slices.Goals as goal

pub rules_of-rules-requires-clause-tapes : goal.rules_of-rules-requires-clause-tapes
rules_of-rules-requires-clause-tapes g c = fit_tapes _ _ c.requires.fit

pub rules_of-rules-requires-clause-arity : goal.rules_of-rules-requires-clause-arity
rules_of-rules-requires-clause-arity g c = c.requires.fit.arity

pub returns-clause-run : goal.returns-clause-run
returns-clause-run g c =
    entry_is _ c.requires.read.is_admitted _ c.requires.read.head_is _ c.rules_of-rules.ensures.text _ c.rules_of-rules.ensures.tapes
    _ _ _ c.begin-from.auto.cells c.begin-from.ensures.start _ _ _ c.advance_in_slices.ensures.run
