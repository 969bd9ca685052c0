use Rattle.std.proofs.Common.{ap, ◌∙◌, get_or, refl}
use Rattle.infer_symbols.proofs.Noting.{note_there, note_full, note_other, note_first}
use Rattle.infer_symbols.proofs.codes.Codes.note.Goals as goal
use Rattle.infer_symbols.proofs.codes.Codes.note.Goals.{in-Some+then-self-i-eq0, in-Some+else-self-i-eq0, in_default}

pub returns-then-self : goal.returns-then-self
returns-then-self c = note_full c.args.self.now _ c.if-self.true

pub returns-then-contains : goal.returns-then-contains
returns-then-contains c = note_there c.args.self.now _ c.if-contains.ensures

pub returns : goal.returns
returns c =
    let s = c.args.self.now in
    elim c.match-hint.branch [
      | in-Some+then-self-i-eq0 w ↦ rw w.self-is (note_first s c.args.c c.if-self.false c.if-contains.ensures w.in-Some.i w.in-Some.ensures.some w.if-self-i-eq0.true)
      | in-Some+else-self-i-eq0 w ↦
          rw w.self-is (note_other s c.args.c c.if-self.false c.if-contains.ensures (λ l z. w.if-self-i-eq0.false (ap (λ j. get_or s.row.now j 0) w.in-Some.ensures.some.1 ∙ z)))
      | in_default w ↦ rw w.self-is (note_other s c.args.c c.if-self.false c.if-contains.ensures (λ l z. w.in_default.ensures.none refl l))
    ]
