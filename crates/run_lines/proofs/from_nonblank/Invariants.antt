-- Blank cells in front change nothing of what is asked for.
use Rattle.std.proofs.Common.{◌≡◌, length}
use Rattle.run_lines.specs.Lines.{from_nonblank}
use Rattle.run_lines.proofs.from_nonblank.Given as goal

-- what was passed is blank
abbrev pub invariant-loop-first : goal.invariant-loop-first
invariant-loop-first l = from_nonblank l.blank l.rest ≡ from_nonblank l.blank l.cells

abbrev pub decreases-loop-first : goal.decreases-loop-first
decreases-loop-first l = length l.rest
