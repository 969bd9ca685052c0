use Rattle.infer_symbols.proofs.GlyphLaws.{single_is}
use Rattle.infer_symbols.proofs.glyphs.Symbols.is_single.Goals as goal

pub returns : goal.returns
returns c = λ e. single_is _ c.args.p.from c.args.p.to c.args.p.write c.args.p.dir c.if-p.false c.if-p-2.false _ _ _ _ c.is_at.ensures c.is_at-2.ensures c.is_at-3.ensures c.is_at-4.ensures e
