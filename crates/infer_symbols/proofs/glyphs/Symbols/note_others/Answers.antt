use Rattle.std.proofs.Common.{refl}
use Rattle.infer_symbols.proofs.GlyphLaws.{others_next, others_end, others_closed}
use Rattle.infer_symbols.proofs.glyphs.Symbols.note_others.Goals as goal

pub returns-then-t-eq-R_BRACE : goal.returns-then-t-eq-R_BRACE
returns-then-t-eq-R_BRACE c = others_closed _ _ _ _ c.loop-i.invariant c.loop-i-test.true c.at-t.ensures c.if-t-eq-R_BRACE.true

pub loop-i-preserved : goal.loop-i-preserved
loop-i-preserved c = others_next _ _ _ _ c.loop-i.invariant c.loop-i-test.true c.at-t.ensures c.if-t-eq-R_BRACE.false c.is_symbol-symbol.ensures refl c.note_if.ensures

pub returns : goal.returns
returns c = others_end _ _ _ _ c.loop-i.invariant c.loop-i-test.false
