-- The symbols before this index are stored; a comma is none.
use Rattle.std.proofs.Common.{◌-◌}
use Rattle.tokens.specs.Listed.{tokens_of}
use Rattle.infer_symbols.specs.Alphabets.{symbol_words}
use Rattle.infer_symbols.proofs.AlphabetLaws.{Running}
use Rattle.infer_symbols.proofs.glyphs.Symbols.quoted_run.Given as goal

abbrev pub invariant-loop-i : goal.invariant-loop-i
invariant-loop-i l = Running (symbol_words l.inferred l.self.blank) (tokens_of l.self.tokens) l.from l.to l.fn.sheet l.sheet l.i

abbrev pub decreases-loop-i : goal.decreases-loop-i
decreases-loop-i l = l.to - l.i
