-- The sets so far stand behind the bracket.
use Rattle.std.proofs.Common.{◌≤◌, ◌∷◌}
use Rattle.emit.specs.Appends.{Appends}
use Rattle.longest.specs.Line.{parted, set_of, set_size}
use Rattle.longest.proofs.text.reads.Given as goal

abbrev pub invariant-loop-tape : goal.invariant-loop-tape
invariant-loop-tape l = record { from : 1 ≤ l.tape; so_far : Appends (0x28 ∷ parted (λ i. set_of (set_size l.pairs i)) l.tape) l.fn.out l.out }
