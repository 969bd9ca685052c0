-- What is left are the rules of the choices behind the one at which the wheels stand.
use Rattle.std.proofs.Common.{◌∙◌}
use Rattle.sheet.proofs.WheelLaws.{turning_none, turning_on, turning_back}
use Rattle.sheet.proofs.ExpandLaws.{choices_fewer, choosing_on, chosen}
use Rattle.sheet.proofs.expand.choices.Goals as goal

pub loop-t-preserved : goal.loop-t-preserved
loop-t-preserved c = turning_back _ _ _ _ _ c.loop-t.invariant c.if-t-eq0.false _ _ c.turn.ensures.goes c.turn.ensures.turned c.if-turn.false

pub choices-smaller : goal.choices-smaller
choices-smaller c =
    choices_fewer _ _ _ _ (c.turn.auto.members ∙ c.loop-t.invariant.size)
    (turning_on _ _ _ _ _ c.loop-t.invariant c.if-t-eq0.false _ _ c.turn.ensures.goes c.turn.ensures.turned c.if-turn.true)

pub choices-preserved : goal.choices-preserved
choices-preserved c =
    choosing_on _ _ c.args.r _ _ _ _ _ c.choices.invariant _ _ (c.turn.auto.members ∙ c.loop-t.invariant.size)
    (turning_on _ _ _ _ _ c.loop-t.invariant c.if-t-eq0.false _ _ c.turn.ensures.goes c.turn.ensures.turned c.if-turn.true) c.put.ensures

pub returns : goal.returns
returns c = chosen _ _ c.args.r _ _ _ _ _ c.choices.invariant (turning_none _ _ _ _ _ c.loop-t.invariant c.if-t-eq0.true)
