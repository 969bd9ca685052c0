use Rattle.assembler.proofs.RuleLaws.{counted-comma, counted-symbol, counted_opened, counted_closed, counted-other}
use Rattle.assembler.proofs.sets.Sets.counted.Goals as goal

pub returns-then-t-eq-COMMA : goal.returns-then-t-eq-COMMA
returns-then-t-eq-COMMA c = counted-comma _ _ c.if-t-eq-COMMA.true

pub returns-then-is_symbol : goal.returns-then-is_symbol
returns-then-is_symbol c = counted-symbol _ _ _ c.is_symbol.ensures c.if-is_symbol.true

pub returns-then-t-eq-L_BRACE : goal.returns-then-t-eq-L_BRACE
returns-then-t-eq-L_BRACE c = counted_opened _ _ c.if-t-eq-L_BRACE.true

pub returns-then-t-ne-R_BRACE : goal.returns-then-t-ne-R_BRACE
returns-then-t-ne-R_BRACE c = counted-other _ _ c.if-t-eq-L_BRACE.false c.if-t-ne-R_BRACE.true _ c.is_symbol.ensures c.if-is_symbol.false

pub returns : goal.returns
returns c = counted_closed _ _ c.if-t-eq-L_BRACE.false c.if-t-ne-R_BRACE.false _ c.min.ensures
