-- The letters so far stand behind the bracket.
use Rattle.std.proofs.Common.{◌≤◌, [], ◌∷◌}
use Rattle.emit.specs.Appends.{Appends}
use Rattle.longest.specs.Line.{parted}
use Rattle.longest.proofs.text.same.Given as goal

abbrev pub invariant-loop-i : goal.invariant-loop-i
invariant-loop-i l = record { from : 1 ≤ l.i; so_far : Appends (0x28 ∷ parted (λ i. l.letter ∷ []) l.i) l.fn.out l.out }
