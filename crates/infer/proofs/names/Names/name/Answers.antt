use Rattle.std.proofs.Common.{rules, arith, refl}
use Rattle.infer.proofs.NameLaws.{name_inside, mark_inside, name_other, name_new, name_again, name_passed}
use Rattle.infer.proofs.names.Names.name.Goals as goal

pub returns-then-not-is_state : goal.returns-then-not-is_state
returns-then-not-is_state c = name_other _ _ _ _ _ _ c.at-t.ensures _ c.is_state.ensures c.if-not-is_state.true

pub offset_bounds-self-x : goal.offset_bounds-self-x
offset_bounds-self-x c = search (rules, name_inside)

pub bounds-self-x : goal.bounds-self-x
bounds-self-x c = name_inside c.args.self.now _ _ _ c.at-t.ensures c.is_state.ensures c.if-not-is_state.false

pub bounds-marks-k : goal.bounds-marks-k
bounds-marks-k c = omega (arith, mark_inside c.args.self.now c.args.x _ _ c.at-t.ensures c.is_state.ensures c.if-not-is_state.false, c.requires.marks)

pub bounds-marks-k-then-m-lt-MET : goal.bounds-marks-k-then-m-lt-MET
bounds-marks-k-then-m-lt-MET c = omega (arith, mark_inside c.args.self.now c.args.x _ _ c.at-t.ensures c.is_state.ensures c.if-not-is_state.false, c.requires.marks)

pub returns-then-m-lt-MET : goal.returns-then-m-lt-MET
returns-then-m-lt-MET c = name_new _ _ _ _ _ _ c.at-t.ensures _ c.is_state.ensures c.if-not-is_state.false _ _ refl refl _ _ c.if-m-lt-MET.true c.words.ensures refl

pub returns-then-repeats : goal.returns-then-repeats
returns-then-repeats c = name_again _ _ _ _ _ _ c.at-t.ensures _ c.is_state.ensures c.if-not-is_state.false _ _ refl refl _ c.if-m-lt-MET.false c.if-repeats.true c.words-then-repeats.ensures

pub returns-else-repeats : goal.returns-else-repeats
returns-else-repeats c = name_passed _ _ _ _ _ _ c.at-t.ensures _ c.is_state.ensures c.if-not-is_state.false _ _ refl refl c.if-m-lt-MET.false c.if-repeats.false
