-- The words before this index are stored.
use Rattle.std.proofs.Common.{◌≡◌, length, take}
use Rattle.sheet.proofs.put.store.Given as goal

abbrev pub invariant-loop-i : goal.invariant-loop-i
invariant-loop-i l = (length l.row ≡ length l.words) × (take l.i l.row ≡ take l.i l.words)
