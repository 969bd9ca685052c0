-- The loop's invariant: the rest of the line, and its end without white space, are what they are from the start.
use Rattle.std.proofs.Common.{◌-◌, length}
use Rattle.lexer.proofs.Scans.{Lined}
use Rattle.lexer.proofs.scan.line_end.Given as goal

abbrev pub invariant-loop-c : goal.invariant-loop-c
invariant-loop-c l = Lined l.text l.fn.at l.i l.trimmed

abbrev pub decreases-loop-c : goal.decreases-loop-c
decreases-loop-c l = length l.text - l.i
