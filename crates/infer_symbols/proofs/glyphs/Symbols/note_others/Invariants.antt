-- The further members from here on are still to be noted.
use Rattle.std.proofs.Common.{false}
use Rattle.tokens.specs.Listed.{tokens_of}
use Rattle.infer_symbols.specs.Symbols.{range, others}
use Rattle.infer_symbols.proofs.Noting.{Yet}
use Rattle.infer_symbols.proofs.glyphs.Symbols.note_others.Given as goal

abbrev pub invariant-loop-i : goal.invariant-loop-i
invariant-loop-i l = Yet l.self.blank (others l.seen (range (tokens_of l.self.tokens) l.i l.to)) l.codes (others false (range (tokens_of l.self.tokens) l.from l.to)) l.fn.codes
