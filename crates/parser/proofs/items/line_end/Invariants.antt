-- The line that goes on from here ends where the whole line ends; each turn passes a token.
use Rattle.std.proofs.Common.{◌≡◌, ◌-◌, length}
use Rattle.parser.specs.Row.{tokens_in}
use Rattle.parser.specs.Lines.{line_end}
use Rattle.parser.proofs.items.line_end.Given as goal

abbrev pub invariant-loop-row : goal.invariant-loop-row
invariant-loop-row l = line_end (tokens_in l.work) l.i ≡ line_end (tokens_in l.work) l.at

abbrev pub decreases-loop-row : goal.decreases-loop-row
decreases-loop-row l = length (tokens_in l.work) - l.i
