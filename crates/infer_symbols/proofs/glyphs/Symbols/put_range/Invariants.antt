-- The symbols from here on are still to be stored.
use Rattle.std.proofs.Common.{◌-◌}
use Rattle.language.specs.Layout.{flat}
use Rattle.tokens.specs.Listed.{tokens_of}
use Rattle.sheet.proofs.Puts.{Left}
use Rattle.infer_symbols.specs.Symbols.{range, symbols}
use Rattle.infer_symbols.specs.Alphabets.{symbol_words}
use Rattle.infer_symbols.proofs.glyphs.Symbols.put_range.Given as goal

abbrev pub invariant-loop-i : goal.invariant-loop-i
invariant-loop-i l =
    Left (flat (symbol_words l.inferred l.self.blank) (symbols (range (tokens_of l.self.tokens) l.i l.to))) l.own (flat (symbol_words l.inferred l.self.blank) (symbols (range (tokens_of l.self.tokens) l.from l.to))) l.initial.own

abbrev pub decreases-loop-i : goal.decreases-loop-i
decreases-loop-i l = l.to - l.i
