use mathlib.Core.Path.{refl}
use Rattle.assembler.proofs.MarkLaws.{mark_inside}
use Rattle.assembler.proofs.FinalLaws.{name_again, name_unknown, name_known, no_error}
use Rattle.assembler.proofs.finals.Names.final_name.Goals as goal
use Rattle.assembler.proofs.finals.Names.final_name.Goals.{else-declared-via-then-declared+else-m-eq0, else-declared-via-else-declared}

pub bounds-marks-k : goal.bounds-marks-k
bounds-marks-k c = mark_inside c.args.self.now _ c.requires.inside c.requires.word _ c.requires.room.0

pub returns-then-m-ge-LISTED-clause-listed : goal.returns-then-m-ge-LISTED-clause-listed
returns-then-m-ge-LISTED-clause-listed c = name_again c.args.self.now _ c.requires.inside c.requires.word _ c.at-t.ensures _ c.requires.room.0 _ refl _ _ _ c.if-m-ge-LISTED.true c.duplicate.ensures

pub bounds-marks-k-2 : goal.bounds-marks-k-2
bounds-marks-k-2 c = mark_inside c.args.self.now _ c.requires.inside c.requires.word _ c.requires.room.0

pub returns-then-m-eq0-clause-listed : goal.returns-then-m-eq0-clause-listed
returns-then-m-eq0-clause-listed c = name_unknown c.args.self.now _ c.requires.inside c.requires.word _ c.at-t.ensures _ c.requires.room.0 _ refl _ _ _ _ _ c.if-m-ge-LISTED.false c.if-declared.true c.if-m-eq0.true c.span_of.ensures c.error.ensures c.append.ensures

pub returns-else-declared-clause-listed : goal.returns-else-declared-clause-listed
returns-else-declared-clause-listed c = name_known c.args.self.now _ c.requires.inside c.requires.word _ c.at-t.ensures _ c.requires.room.0 _ refl _ _ c.if-m-ge-LISTED.false
    (elim c.else-declared.branch [
      | else-declared-via-then-declared+else-m-eq0 w ↦ no_error _ _ w.if-m-eq0.false
      | else-declared-via-else-declared w ↦ rw w.if-declared.false
    ])
