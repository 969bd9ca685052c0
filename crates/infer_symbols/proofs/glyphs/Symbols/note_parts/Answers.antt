use Rattle.std.proofs.Common.{refl}
use Rattle.tokens.specs.Listed.{tokens_of}
use Rattle.infer_symbols.proofs.GlyphLaws.{single-noted}
use Rattle.infer_symbols.proofs.glyphs.Symbols.note_parts.Goals as goal

pub returns : goal.returns
returns c =
    single-noted (tokens_of c.args.self.now.tokens) c.args.p.from c.args.p.to c.args.p.write c.args.p.dir (c.if-not-is_single.ensures refl) _ _ c.at-t.ensures c.at-u.ensures c.is_symbol.ensures c.is_symbol-2.ensures
    c.note_if.ensures c.note_if-2.ensures
