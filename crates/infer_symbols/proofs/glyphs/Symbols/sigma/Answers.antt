use Rattle.std.proofs.Common.{arith}
use Rattle.assembler.proofs.FirstLines.{there_is, there-inside, none-outside}
use Rattle.infer_symbols.proofs.AlphabetLaws.{sigma-declared, sigma-line, sigma-others, sigma-none}
use Rattle.infer_symbols.proofs.glyphs.Symbols.sigma.Goals as goal

pub returns-in-Some : goal.returns-in-Some
returns-in-Some c = sigma-declared _ _ _ _ _ _ _ (there_is _ _ c.line.ensures c.in-Some.is) (omega (arith, there-inside _ _ c.line.ensures c.in-Some.is, c.len-n.ensures.tokens)) c.put_line.ensures

pub returns-in-Some-line : goal.returns-in-Some-line
returns-in-Some-line c =
    sigma-line _ _ _ _ _ _ (omega (arith, none-outside _ _ c.line.ensures c.in_default.is, c.len-n.ensures.tokens)) _ (there_is _ _ c.line-2.ensures c.in-Some-line.is)
    (omega (arith, there-inside _ _ c.line-2.ensures c.in-Some-line.is, c.len-n.ensures.tokens)) c.put_line-in-Some-line.ensures

pub returns-in_default-codes : goal.returns-in_default-codes
returns-in_default-codes c =
    sigma-none _ _ _ _ _ (omega (arith, none-outside _ _ c.line.ensures c.in_default.is, c.len-n.ensures.tokens))
    (omega (arith, none-outside _ _ c.line-2.ensures c.in_default-line.is, c.len-n.ensures.tokens)) c.in_default-codes.len_below

pub returns-in-len1-up : goal.returns-in-len1-up
returns-in-len1-up c =
    sigma-others _ _ _ _ _ _ (omega (arith, none-outside _ _ c.line.ensures c.in_default.is, c.len-n.ensures.tokens))
    (omega (arith, none-outside _ _ c.line-2.ensures c.in_default-line.is, c.len-n.ensures.tokens)) c.put_codes.ensures
