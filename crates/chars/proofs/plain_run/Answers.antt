-- `chars::plain_run` meets its contract: one more character of the set stands before the next place.
use Rattle.std.proofs.Common.{arith}
use Rattle.chars.proofs.Short.{passes-next}
use Rattle.chars.proofs.Blocks.{passes-more}
use Rattle.chars.proofs.plain_run.Goals as goal

pub loop-next-smaller : goal.loop-next-smaller
loop-next-smaller c = let p = passes-next _ _ _ c.in-Some.ensures in omega (arith, p.1, p.0.inside)

pub loop-next-preserved : goal.loop-next-preserved
loop-next-preserved c = passes-more _ _ _ _ c.loop-next.invariant (passes-next _ _ _ c.in-Some.ensures).0
