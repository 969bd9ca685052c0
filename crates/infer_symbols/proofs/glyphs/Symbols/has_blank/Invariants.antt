-- The blank is among all symbols if it is among those from here on.
use Rattle.std.proofs.Common.{◌≡◌}
use Rattle.tokens.specs.Listed.{tokens_of}
use Rattle.infer_symbols.specs.Symbols.{range, has_blank}
use Rattle.infer_symbols.proofs.glyphs.Symbols.has_blank.Given as goal

abbrev pub invariant-loop-i : goal.invariant-loop-i
invariant-loop-i l = has_blank l.self.blank (range (tokens_of l.self.tokens) l.i l.to) ≡ has_blank l.self.blank (range (tokens_of l.self.tokens) l.from l.to)
