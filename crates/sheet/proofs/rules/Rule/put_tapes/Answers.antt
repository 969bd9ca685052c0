-- The tapes that are left go behind what is stored.
use Rattle.sheet.proofs.RuleLaws.{taping_on, taped}
use Rattle.sheet.proofs.rules.Rule.put_tapes.Goals as goal

pub loop-t-preserved : goal.loop-t-preserved
loop-t-preserved c = taping_on _ _ c.args.self _ _ _ _ c.loop-t.invariant _ _ _ _ c.loop-t-test.true c.at-r.ensures c.at-w.ensures c.at-d.ensures c.tape.ensures

pub returns : goal.returns
returns c = taped _ _ c.args.self _ _ _ _ c.loop-t.invariant c.loop-t-test.false
