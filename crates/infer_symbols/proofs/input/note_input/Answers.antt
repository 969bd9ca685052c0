use Rattle.std.proofs.Common.{arith}
use Rattle.infer_symbols.proofs.InputLaws.{input_none, input_string}
use Rattle.infer_symbols.proofs.input.note_input.Goals as goal

pub returns-then-d-len : goal.returns-then-d-len
returns-then-d-len c = input_string _ _ _ (omega (arith, c.if-d-len.true, c.len.ensures.tokens)) _ c.at-t.ensures c.note_string.ensures

pub returns-else-d-len : goal.returns-else-d-len
returns-else-d-len c = input_none _ _ _ _ (omega (arith, c.if-d-len.false, c.len.ensures.tokens))
