-- The text is read, and the form of the answer is written.
use Rattle.writer_records.proofs.Outcomes.{was_read, written}
use Rattle.writer_records.proofs.write.Goals as goal

pub write_answer-requires : goal.write_answer-requires
write_answer-requires c = was_read _ _ _ _ _ _ _ c.read-answer.ensures.0

pub returns : goal.returns
returns c = (
  written _ _ _ _ c.read-answer.result _ _ c.read-answer.ensures.0 c.write_answer.result _ _ c.write_answer.ensures.outcome,
  λ h. c.read-answer.ensures.1 (c.write_answer.ensures.touches h),
)
