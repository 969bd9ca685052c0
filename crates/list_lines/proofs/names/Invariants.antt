use Rattle.std.proofs.Common.{◌-◌, ◌≤◌}
use Rattle.language.specs.Agreement.{groups}
use Rattle.list_lines.specs.Listing.{parted, names}
use Rattle.list_lines.proofs.Chain.{Goes}
use Rattle.list_lines.proofs.Lists.{more}
use Rattle.list_lines.proofs.names.Given as goal

-- the names of the states that are left
abbrev pub invariant-loop-i : goal.invariant-loop-i
invariant-loop-i l = record {
  few : l.printed ≤ l.i;
  goes : Goes (more 0x20 l.printed (names l.text l.all (groups 3 (l.n - l.i) l.rest))) l.out (parted 0x20 (names l.text l.all (groups 3 l.n l.states))) l.fn.out;
}
