-- `chars::plain_up_to` meets its contract: a character of the set, and the run behind it, are passed over.
use Rattle.std.proofs.Common.{◌∙◌, arith, sym}
use Rattle.chars.proofs.Blocks.{plain_end, passes-more}
use Rattle.chars.proofs.Short.{passes-next, plain_found}
use Rattle.chars.proofs.plain_up_to.Goals as goal

pub returns-in_default : goal.returns-in_default
returns-in_default c = plain_found _ _ c.loop-at.invariant (sym c.in_default.is ∙ c.plain_next.ensures)

pub plain_run-at-requires : goal.plain_run-at-requires
plain_run-at-requires c = let p = passes-next _ _ _ (sym c.in-Some.is ∙ c.plain_next.ensures) in omega (arith, p.0.inside)

pub loop-at-smaller : goal.loop-at-smaller
loop-at-smaller c = let p = passes-next _ _ _ (sym c.in-Some.is ∙ c.plain_next.ensures) in omega (arith, p.1, p.0.inside, c.plain_run-at.ensures.from, c.plain_run-at.ensures.inside)

pub loop-at-preserved : goal.loop-at-preserved
loop-at-preserved c = passes-more _ _ _ _ c.loop-at.invariant (passes-more _ _ _ _ (passes-next _ _ _ (sym c.in-Some.is ∙ c.plain_next.ensures)).0 c.plain_run-at.ensures)

pub returns : goal.returns
returns c = plain_end _ _ c.loop-at.invariant c.loop-at-test.false
