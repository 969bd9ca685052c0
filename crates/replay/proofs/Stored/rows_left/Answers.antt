-- Answers for `replay::rows_left`: the definition looks at the same rows in the same order.
use Rattle.std.proofs.Common.{◌∙◌}
use Rattle.replay.proofs.Laws.{rows-first, rows_both}
use Rattle.replay.proofs.Stored.rows_left.Goals as goal

pub returns-then-left : goal.returns-then-left
returns-then-left c = rows_both _ _ _ _ _ c.word_at-m.ensures _ _ _ _ c.left.ensures c.if-left.true c.marked-from.ensures.0 c.word_at.ensures c.left-then-left.ensures

pub returns-else-left : goal.returns-else-left
returns-else-left c = c.if-left.false ∙ rows-first _ _ _ _ _ c.word_at-m.ensures _ c.left.ensures c.if-left.false
