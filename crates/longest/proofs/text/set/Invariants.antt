-- The letters so far stand behind the bracket.
use Rattle.std.proofs.Common.{◌≤◌, ◌+◌, [], ◌∷◌}
use Rattle.emit.specs.Appends.{Appends}
use Rattle.longest.specs.Line.{parted}
use Rattle.longest.proofs.text.set.Given as goal

abbrev pub invariant-loop-i : goal.invariant-loop-i
invariant-loop-i l = record { from : 1 ≤ l.i; so_far : Appends (0x7B ∷ parted (λ j. (0x61 + j) ∷ []) l.i) l.fn.out l.out }
