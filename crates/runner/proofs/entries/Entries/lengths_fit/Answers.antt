-- Each length is taken from what is left, as the definition takes it.
use Rattle.std.proofs.Common.{sym, ◌∙◌}
use Rattle.runner.proofs.AllRead.{fit_stops, fit_on, fit_ends}
use Rattle.runner.proofs.entries.Entries.lengths_fit.Goals as goal

pub returns-then-left-own : goal.returns-then-left-own
returns-then-left-own c = sym (fit_stops _ _ _ c.loop-length-test.true c.if-left-own.true) ∙ c.loop-length.invariant

pub loop-length-preserved : goal.loop-length-preserved
loop-length-preserved c = sym (fit_on _ _ _ c.loop-length-test.true c.if-left-own.false) ∙ c.loop-length.invariant

pub returns : goal.returns
returns c = sym (fit_ends _ _ _ c.loop-length-test.false) ∙ c.loop-length.invariant
