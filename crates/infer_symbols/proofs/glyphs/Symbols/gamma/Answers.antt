use Rattle.std.proofs.Common.{arith}
use Rattle.assembler.proofs.FirstLines.{there_is, there-inside, none-outside}
use Rattle.infer_symbols.proofs.AlphabetLaws.{gamma-codes, gamma-has, gamma-lacks, line-has}
use Rattle.infer_symbols.proofs.glyphs.Symbols.gamma.Goals as goal

pub returns-in_default : goal.returns-in_default
returns-in_default c = gamma-codes _ _ _ _ _ _ (omega (arith, none-outside _ _ c.line.ensures c.in_default.is, c.len.ensures.tokens)) c.put_codes.ensures

pub returns-then-not-has_blank : goal.returns-then-not-has_blank
returns-then-not-has_blank c =
    gamma-lacks _ _ _ _ _ _ _ (there_is _ _ c.line.ensures c.in-Some.is) (omega (arith, there-inside _ _ c.line.ensures c.in-Some.is, c.len.ensures.tokens)) (line-has _ _ _ _ c.at-t.ensures _ c.has_blank.ensures c.if-not-has_blank.true) _ c.put_line.ensures c.symbol.ensures

pub returns-else-not-has_blank : goal.returns-else-not-has_blank
returns-else-not-has_blank c =
    gamma-has _ _ _ _ _ _ _ (there_is _ _ c.line.ensures c.in-Some.is) (omega (arith, there-inside _ _ c.line.ensures c.in-Some.is, c.len.ensures.tokens)) (line-has _ _ _ _ c.at-t.ensures _ c.has_blank.ensures c.if-not-has_blank.false) c.put_line.ensures
