use Rattle.std.proofs.Common.{rules, arith, refl}
use Rattle.infer.proofs.NameLaws.{name_inside, mark_inside, final_set, final_none}
use Rattle.infer.proofs.names.Names.list_final.Goals as goal

pub offset_bounds-self-x : goal.offset_bounds-self-x
offset_bounds-self-x c = search (rules, name_inside)

pub bounds-self-x : goal.bounds-self-x
bounds-self-x c = name_inside c.args.self.now _ _ _ c.at.ensures c.is_state.ensures c.if-is_state.true

pub bounds-marks-self : goal.bounds-marks-self
bounds-marks-self c = omega (arith, mark_inside c.args.self.now c.args.x _ _ c.at.ensures c.is_state.ensures c.if-is_state.true, c.requires.marks)

pub returns-then-is_state : goal.returns-then-is_state
returns-then-is_state c = final_set _ _ _ _ _ c.at.ensures _ c.is_state.ensures c.if-is_state.true _ refl

pub returns-else-is_state : goal.returns-else-is_state
returns-else-is_state c = final_none _ _ _ _ _ c.at.ensures _ c.is_state.ensures c.if-is_state.false
