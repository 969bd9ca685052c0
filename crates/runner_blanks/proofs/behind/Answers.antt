-- The farther of the two is known.
use Rattle.std.proofs.Common.{arith}
use Rattle.runner_blanks.proofs.behind.Goals as goal

pub returns-clause-steps : goal.returns-clause-steps
returns-clause-steps c = omega (arith, c.max.ensures)

pub returns-clause-input : goal.returns-clause-input
returns-clause-input c = omega (arith, c.max.ensures, c.input_length-input.ensures)
