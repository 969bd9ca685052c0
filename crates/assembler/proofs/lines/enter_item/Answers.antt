use mathlib.Core.Path.{refl}
use native.Mathlib.Omega.{arith}
use Rattle.assembler.proofs.LineLaws.{newline_low, rule_number, other_number, item-entered, rule_room, rule_fits, rule-entered}
use Rattle.assembler.proofs.lines.enter_item.Goals as goal

pub put_item-requires : goal.put_item-requires
put_item-requires c = (omega (arith, c.requires.room, c.requires.inside.0), newline_low _ _ _ c.requires.room c.requires.inside.0 c.requires.inside.1 _ c.requires.read)

pub put_parts-requires : goal.put_parts-requires
put_parts-requires c =
    let m = rule_number _ c.in-Transition.is in
    (omega (arith, c.requires.room, c.put_item.auto.work), rule_room _ _ _ c.requires.room c.requires.inside.0 c.requires.inside.1 _ c.requires.read _ refl m, rule_fits _ _ _ c.requires.room c.requires.inside.0 c.requires.inside.1 _ c.requires.read _ refl m)

pub returns-in-Transition : goal.returns-in-Transition
returns-in-Transition c = rule-entered _ _ _ c.requires.room c.requires.inside.0 c.requires.inside.1 _ c.requires.read _ c.put_item.ensures _ refl _ (rule_number _ c.in-Transition.is) c.put_parts.ensures

pub returns-in_default : goal.returns-in_default
returns-in_default c = item-entered _ _ _ c.requires.room c.requires.inside.0 c.requires.inside.1 _ c.requires.read _ c.put_item.ensures _ refl (other_number _ c.in_default.not-Transition)
