-- What is left of the part, stored behind what is there, is the part stored at the start.
use Rattle.std.proofs.Common.{◌≡◌, ◌+◌, length, drop}
use lib.Seq.{sets}
use Rattle.emit.proofs.put.Given as goal

abbrev pub invariant-loop-i : goal.invariant-loop-i
invariant-loop-i l = (length l.row ≡ length l.fn.row) × (sets l.row (l.at + l.i) (drop l.i l.part) ≡ sets l.fn.row l.at l.part)
