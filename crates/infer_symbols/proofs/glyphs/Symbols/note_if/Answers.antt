use Rattle.infer_symbols.proofs.GlyphLaws.{if_none}
use Rattle.infer_symbols.proofs.glyphs.Symbols.note_if.Goals as goal

pub returns-else-counts : goal.returns-else-counts
returns-else-counts c = if_none _ _ c.if-counts.false
