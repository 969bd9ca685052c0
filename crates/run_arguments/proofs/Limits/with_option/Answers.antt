-- The tests are those of the definition, in the same order.
use Rattle.std.proofs.Common.{rules, arith}
use Rattle.run_arguments.proofs.Options.{cells_taken}
use Rattle.run_arguments.proofs.Limits.with_option.Goals as goal

pub returns : goal.returns
returns c = cells_taken _ _ _ _ (search rules) (search rules) (search rules) (omega (arith, c.if-cells.false))
