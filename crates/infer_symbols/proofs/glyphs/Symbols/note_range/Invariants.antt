-- The symbols from here on are still to be noted, and the last one is noted.
use Rattle.tokens.specs.Listed.{tokens_of}
use Rattle.infer_symbols.specs.Symbols.{range, symbols}
use Rattle.infer_symbols.proofs.GlyphLaws.{Ranging}
use Rattle.infer_symbols.proofs.glyphs.Symbols.note_range.Given as goal

abbrev pub invariant-loop-i : goal.invariant-loop-i
invariant-loop-i l = Ranging l.self.blank (tokens_of l.self.tokens) l.last l.i l.to l.codes (symbols (range (tokens_of l.self.tokens) l.from l.to)) l.fn.codes
