use Rattle.infer_symbols.proofs.GlyphLaws.{turning_start, turning_open, turning_past, turning_end}
use Rattle.std.proofs.Common.{refl}
use Rattle.infer_symbols.proofs.glyphs.Symbols.note_further.Goals as goal

pub loop-i-init : goal.loop-i-init
loop-i-init c = turning_start _ _ _ _ _

pub loop-i-preserved-then-at-eq-L_BRACE : goal.loop-i-preserved-then-at-eq-L_BRACE
loop-i-preserved-then-at-eq-L_BRACE c = turning_open _ _ _ _ _ _ _ _ c.loop-i.invariant _ c.loop-i-test.true c.at.ensures _ c.if-at-eq-L_BRACE.true _ c.note_others.ensures refl

pub loop-i-preserved : goal.loop-i-preserved
loop-i-preserved c = turning_past _ _ _ _ _ _ _ _ c.loop-i.invariant _ c.loop-i-test.true c.at.ensures _ c.if-at-eq-L_BRACE.false refl

pub returns : goal.returns
returns c = turning_end _ _ _ _ _ _ _ _ c.loop-i.invariant c.loop-i-test.false
