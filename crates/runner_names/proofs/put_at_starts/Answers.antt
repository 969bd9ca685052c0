-- `runner_names::put_at_starts` meets its contract: no two tokens begin at one place, so that no word is put over another.
use native.Mathlib.Omega.{arith}
use Rattle.runner_names.proofs.StartLaws.{starts_more}
use Rattle.runner_names.proofs.put_at_starts.Goals as goal

pub loop-x-preserved : goal.loop-x-preserved
loop-x-preserved c = starts_more _ _ _ _ _ c.requires.rising c.loop-x.auto.row (omega (arith, c.len-x-end.ensures.tokens, c.loop-x-test.true)) c.loop-x.invariant _ c.known.ensures
