-- Answers for `replay::work_left`: the definition makes the same tests.
use Rattle.std.proofs.Common.{arith}
use Rattle.replay.proofs.Laws.{work_kept, work_free}
use Rattle.replay.proofs.Stored.work_left.Goals as goal

pub returns-in-1 : goal.returns-in-1
returns-in-1 c = work_kept _ _ _ _ _ (omega arith) (omega arith) c.left.ensures

pub returns-in_default : goal.returns-in_default
returns-in_default c = work_free _ _ _ _ (λ e. omega arith) (λ e. omega arith)

pub returns-in_default-2 : goal.returns-in_default-2
returns-in_default-2 c = work_free _ _ _ _ (λ e. omega arith) (λ e. omega arith)
