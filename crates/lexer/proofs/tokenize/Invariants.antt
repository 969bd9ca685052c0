-- The loop's invariant: the tokens so far are written, and those from here on are what is left.
use Rattle.std.proofs.Common.{◌-◌, length}
use Rattle.lexer.proofs.Writes.{State}
use Rattle.lexer.proofs.tokenize.Given as goal

abbrev pub invariant-loop-v : goal.invariant-loop-v
invariant-loop-v l = State l.text l.initial.work l.work l.at l.n

abbrev pub decreases-loop-v : goal.decreases-loop-v
decreases-loop-v l = length l.text - l.at
