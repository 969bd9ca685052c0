use Rattle.std.proofs.Common.{◌≡◌, ◌<◌, ◌^◌, length}
use Rattle.assembler_names.specs.Index.{hash_from}
use Rattle.assembler_names.proofs.table.hash.Given as goal

abbrev pub invariant-loop-left : goal.invariant-loop-left
invariant-loop-left l = record { low : l.h < 2 ^ 30; same : hash_from l.h l.left ≡ hash_from 0 l.name }

abbrev pub decreases-loop-left : goal.decreases-loop-left
decreases-loop-left l = length l.left
