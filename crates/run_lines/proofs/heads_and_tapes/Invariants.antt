-- The cells that are left are those of the tapes that are left, and have room for them.
use Rattle.std.proofs.Common.{◌≤◌, ◌-◌, ◌*◌, length, drop}
use Rattle.list_lines.proofs.Chain.{Goes}
use Rattle.runner_tapes.specs.Shown.{heads_of}
use Rattle.run_lines.specs.Lines.{tape_lines}
use Rattle.run_lines.proofs.heads_and_tapes.Given as goal

-- the heads and tapes that are left
abbrev pub invariant-loop-offset : goal.invariant-loop-offset
invariant-loop-offset l =
    let heads = heads_of l.tapes l.fn.heads in
    record {
      room : 2 * l.half * (l.tapes - l.offset-index) ≤ length l.rest;
      goes : Goes (tape_lines l.half l.blank (drop l.offset-index heads) l.rest) l.out (tape_lines l.half l.blank heads l.cells) l.fn.out;
    }
