use Rattle.infer_symbols.proofs.GlyphLaws.{first_next, first_end}
use Rattle.infer_symbols.proofs.glyphs.Symbols.note_firsts.Goals as goal

pub loop-i-preserved : goal.loop-i-preserved
loop-i-preserved c = first_next _ _ _ _ c.loop-i.invariant c.loop-i-test.true c.at-t.ensures c.takes.ensures c.walked-s.ensures c.note_if.ensures

pub returns : goal.returns
returns c = first_end _ _ _ _ c.loop-i.invariant c.loop-i-test.false
