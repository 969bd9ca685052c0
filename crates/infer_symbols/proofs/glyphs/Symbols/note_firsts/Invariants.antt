-- The first members from here on are still to be noted.
use Rattle.tokens.specs.Listed.{tokens_of}
use Rattle.infer_symbols.specs.Symbols.{range, firsts, outside}
use Rattle.infer_symbols.proofs.Noting.{Yet}
use Rattle.infer_symbols.proofs.glyphs.Symbols.note_firsts.Given as goal

abbrev pub invariant-loop-i : goal.invariant-loop-i
invariant-loop-i l = Yet l.self.blank (firsts l.s (range (tokens_of l.self.tokens) l.i l.to)) l.codes (firsts outside (range (tokens_of l.self.tokens) l.from l.to)) l.fn.codes
