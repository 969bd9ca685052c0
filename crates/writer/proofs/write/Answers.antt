-- The text is read first, and what the answer becomes is the definition's outcome.
use Rattle.writer.proofs.Calls.{machine_was_read, answer-written}
use Rattle.writer.proofs.write.Goals as goal

pub write_answer-requires : goal.write_answer-requires
write_answer-requires c = machine_was_read _ _ _ _ _ _ _ c.read-answer.ensures.0

pub returns : goal.returns
returns c = (
  answer-written _ _ _ _ c.read-answer.result _ _ c.read-answer.ensures.0 c.write_answer.result _ _ c.write_answer.ensures.outcome,
  λ h. c.read-answer.ensures.1 (c.write_answer.ensures.touches h),
)
