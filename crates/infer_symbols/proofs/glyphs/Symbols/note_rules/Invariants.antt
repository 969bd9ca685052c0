-- The symbols of the lines from here on are still to be noted.
use Rattle.std.proofs.Common.{◌-◌, length}
use Rattle.tokens.specs.Listed.{tokens_of}
use Rattle.assembler.specs.Entries.{entries}
use Rattle.assembler.proofs.Rows.{entries_at}
use Rattle.infer_symbols.specs.Symbols.{rules_symbols}
use Rattle.infer_symbols.proofs.Noting.{Yet}
use Rattle.infer_symbols.proofs.glyphs.Symbols.note_rules.Given as goal

abbrev pub invariant-loop-e : goal.invariant-loop-e
invariant-loop-e l =
    Yet l.self.blank (rules_symbols (tokens_of l.self.tokens) (entries_at (tokens_of l.self.tokens) l.e)) l.codes (rules_symbols (tokens_of l.self.tokens) (entries (tokens_of l.self.tokens))) l.fn.codes

abbrev pub decreases-loop-e : goal.decreases-loop-e
decreases-loop-e l = length (tokens_of l.self.tokens) - l.e
