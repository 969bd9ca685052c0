use Rattle.std.proofs.Common.{◌-◌}
use Rattle.language.specs.Agreement.{groups}
use Rattle.list_lines.specs.Listing.{parted, moves}
use Rattle.list_lines.proofs.Chain.{Goes}
use Rattle.list_lines.proofs.Lists.{more}
use Rattle.list_lines.proofs.directions.Given as goal

-- the moves of the actions that are left
abbrev pub invariant-loop-i : goal.invariant-loop-i
invariant-loop-i l = Goes (more 0x2C l.i (moves (groups 7 (l.n - l.i) l.rest))) l.out (parted 0x2C (moves (groups 7 l.n l.actions))) l.fn.out
