-- Answers for `replay::output_at`: the definition makes the same test.
use Rattle.std.proofs.Common.{◌∙◌}
use borrow.Author.Tests.{lt-leb}
use Rattle.replay.proofs.Laws.{output-before, output_there}
use Rattle.replay.proofs.Stored.output_at.Goals as goal

pub returns-then-n-end : goal.returns-then-n-end
returns-then-n-end c = output_there _ _ _ _ _ c.word_at.ensures c.marked-n.ensures.0 c.if-n-end.true _ c.output_left.ensures

pub returns-else-n-end : goal.returns-else-n-end
returns-else-n-end c = lt-leb _ _ c.if-n-end.false ∙ output-before _ _ _ _ _ c.word_at.ensures c.marked-n.ensures.0 c.if-n-end.false
