use Prim.Native.Nat.{◌-◌}
use Rattle.tokens.specs.Listed.{tokens_of}
use Rattle.assembler.specs.Entries.{entries}
use Rattle.assembler.specs.Failures.{line_errors}
use Rattle.assembler.proofs.Passes.{Passing}
use Rattle.assembler.proofs.failures.line_errors.Given as goal

abbrev pub invariant-loop-at : goal.invariant-loop-at
invariant-loop-at l = Passing (tokens_of l.tokens) line_errors (line_errors (entries (tokens_of l.tokens))) l.fn.log l.log l.at

abbrev pub decreases-loop-at : goal.decreases-loop-at
decreases-loop-at l = l.tokens.count - l.at
