-- Each pass makes one tape blank and leaves the others as they were.
use Rattle.runner_blanks.proofs.Swept.{Swept}
use Rattle.runner_blanks.proofs.blank_near.Given as goal

-- the tapes before this one are blank
abbrev pub invariant-loop-tape : goal.invariant-loop-tape
invariant-loop-tape l = Swept l.known l.fn.cells l.tape l.cells
