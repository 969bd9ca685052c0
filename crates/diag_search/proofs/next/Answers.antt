use Rattle.diag_search.proofs.Going.{going_on, found-next, found_stands, found-size}
use Rattle.diag_search.proofs.next.Goals as goal

pub returns-in-Some : goal.returns-in-Some
returns-in-Some c =
    let g = c.loop-diagnostic.invariant in
    let e = c.step-step.ensures in
    (found-next _ _ _ _ _ g _ _ e _ c.in-Some.is, found_stands _ _ _ _ _ g _ _ e, found-size _ _ _ _ _ g _ _ e)

pub loop-diagnostic-preserved : goal.loop-diagnostic-preserved
loop-diagnostic-preserved c = going_on _ _ _ _ _ c.loop-diagnostic.invariant _ _ c.step-step.ensures c.in_default.is
