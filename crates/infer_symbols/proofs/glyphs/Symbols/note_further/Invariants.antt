-- The sets in front of here are still to be noted, from the last to the first.
use Rattle.tokens.specs.Listed.{tokens_of}
use Rattle.infer_symbols.specs.Symbols.{range, further}
use Rattle.infer_symbols.proofs.GlyphLaws.{Turning}
use Rattle.infer_symbols.proofs.glyphs.Symbols.note_further.Given as goal

abbrev pub invariant-loop-i : goal.invariant-loop-i
invariant-loop-i l = Turning l.self.blank (tokens_of l.self.tokens) l.from l.to l.i l.codes (further (range (tokens_of l.self.tokens) l.from l.to)) l.fn.codes
