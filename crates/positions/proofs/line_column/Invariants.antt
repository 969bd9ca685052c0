-- The position so far goes on, over the characters that are left, to that of the whole, and lies no further than their bytes.
use Rattle.std.proofs.Common.{◌≡◌, ◌-◌, ◌≤◌, length, drop, fold}
use Rattle.chars.specs.Utf8.{decode}
use Rattle.positions.specs.Positions.{behind}
use Rattle.positions.specs.Steps.{next}
use Rattle.positions.proofs.Scans.{NotFar}
use Rattle.positions.proofs.line_column.Given as goal

abbrev pub invariant-loop-c : goal.invariant-loop-c
invariant-loop-c l = record {
  inside : l.i ≤ length l.before;
  total : fold next l.p (decode (drop l.i l.before)) ≡ behind (decode l.before);
  near : NotFar l.p l.i;
}

abbrev pub decreases-loop-c : goal.decreases-loop-c
decreases-loop-c l = length l.before - l.i
