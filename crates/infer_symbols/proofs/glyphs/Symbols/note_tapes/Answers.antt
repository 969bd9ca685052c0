use Rattle.tokens.specs.Listed.{tokens_of}
use Rattle.infer_symbols.proofs.GlyphLaws.{parts-all, plain-all}
use Rattle.infer_symbols.proofs.glyphs.Symbols.note_tapes.Goals as goal

pub returns-then-has_kind : goal.returns-then-has_kind
returns-then-has_kind c = parts-all (tokens_of c.args.self.now.tokens) c.args.p.from c.args.p.to c.args.p.write c.args.p.dir c.note_firsts.ensures c.note_range.ensures c.note_further.ensures

pub returns-else-has_kind : goal.returns-else-has_kind
returns-else-has_kind c =
    plain-all (tokens_of c.args.self.now.tokens) c.args.p.from c.args.p.to c.args.p.write c.args.p.dir _ c.has_kind.ensures c.if-has_kind.false c.note_range-else-has_kind.ensures c.note_range-else-has_kind-2.ensures
