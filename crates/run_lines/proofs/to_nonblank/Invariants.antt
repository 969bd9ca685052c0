-- Blank cells at the end change nothing of what is asked for.
use Rattle.std.proofs.Common.{◌≡◌, length}
use Rattle.run_lines.specs.Lines.{to_nonblank}
use Rattle.run_lines.proofs.to_nonblank.Given as goal

-- what was cut off is blank
abbrev pub invariant-loop-last : goal.invariant-loop-last
invariant-loop-last l = to_nonblank l.blank l.rest ≡ to_nonblank l.blank l.cells

abbrev pub decreases-loop-last : goal.decreases-loop-last
decreases-loop-last l = length l.rest
