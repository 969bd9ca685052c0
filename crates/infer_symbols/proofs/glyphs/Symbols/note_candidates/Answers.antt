use Rattle.std.proofs.Common.{arith}
use Rattle.assembler.proofs.FirstLines.{there_is, there-inside, none-outside}
use Rattle.infer_symbols.proofs.AlphabetLaws.{line-noted, candidates-declared, candidates-not}
use Rattle.infer_symbols.proofs.glyphs.Symbols.note_candidates.Goals as goal

pub returns-in-Some : goal.returns-in-Some
returns-in-Some c = candidates-declared _ _ _ _ _ _ _ _ (there_is _ _ c.line.ensures c.in-Some.is) (omega (arith, there-inside _ _ c.line.ensures c.in-Some.is, c.len-n.ensures.tokens)) (line-noted _ _ _ c.at-t.ensures c.note_range.ensures) c.note_rules.ensures

pub returns : goal.returns
returns c = candidates-not _ _ _ _ _ _ _ (omega (arith, none-outside _ _ c.line.ensures c.in_default.is, c.len-n.ensures.tokens)) c.note_rules-2.ensures c.note_input.ensures
