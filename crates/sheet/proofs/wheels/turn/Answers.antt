-- A wheel that goes on stands before a comma.
use Rattle.std.proofs.Common.{arith}
use Rattle.sheet.proofs.CommentLaws.{many}
use Rattle.sheet.proofs.WheelLaws.{step_fits}
use Rattle.sheet.proofs.wheels.turn.Goals as goal

pub overflow_add-members : goal.overflow_add-members
overflow_add-members c = step_fits _ _ _ _ (omega (arith, c.requires.small, many c.args.tokens.now)) c.goes_on-went.ensures c.if-went.true
