use Rattle.infer_symbols.proofs.GlyphLaws.{ranging_noted, ranging_passed, ranging_end}
use Rattle.infer_symbols.proofs.glyphs.Symbols.note_range.Goals as goal
use Rattle.infer_symbols.proofs.glyphs.Symbols.note_range.Goals.{then-is_new, else-is_new}

pub loop-i-preserved : goal.loop-i-preserved
loop-i-preserved c = elim c.if-is_new.branch [
  | then-is_new w ↦
      ranging_noted _ _ _ _ _ _ _ _ c.loop-i.invariant _ c.loop-i-test.true c.at-t.ensures _ c.is_new.ensures _ _ w.if-is_new.true _ w.resolve.ensures _ w.note.ensures w.codes-is w.last-is
  | else-is_new w ↦ ranging_passed _ _ _ _ _ _ _ _ c.loop-i.invariant _ c.loop-i-test.true c.at-t.ensures _ c.is_new.ensures _ _ w.if-is_new.false w.codes-is w.last-is
]

pub returns : goal.returns
returns c = ranging_end _ _ _ _ _ _ _ _ c.loop-i.invariant c.loop-i-test.false
