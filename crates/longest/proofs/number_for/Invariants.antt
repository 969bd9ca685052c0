-- The number so far is the product of the sizes so far.
use Rattle.std.proofs.Common.{◌≡◌}
use Rattle.longest.specs.Line.{product_of}
use Rattle.longest.proofs.number_for.Given as goal

abbrev pub invariant-loop-tape : goal.invariant-loop-tape
invariant-loop-tape l = l.number ≡ product_of l.pairs l.tape
