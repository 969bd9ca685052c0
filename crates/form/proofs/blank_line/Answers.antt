-- The pieces of the blank's line stand one after the other, or nothing where no blank is declared.
use Rattle.form.proofs.HeadWords.{blank_none, blank_written}
use Rattle.form.proofs.blank_line.Goals as goal

pub returns-then-declared : goal.returns-then-declared
returns-then-declared c = blank_written _ _ _ _ _ _ c.if-declared.true c.bytes.ensures c.symbol.ensures c.bytes-then-declared.ensures

pub returns-else-declared : goal.returns-else-declared
returns-else-declared c = blank_none _ _ _ c.if-declared.false
