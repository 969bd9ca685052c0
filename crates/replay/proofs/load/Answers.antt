-- The part that is read into is within the buffer.
use Rattle.std.proofs.Common.{arith, length-take}
use Rattle.replay.proofs.load.Goals as goal

pub slice_bounds-fill-end-2 : goal.slice_bounds-fill-end-2
slice_bounds-fill-end-2 g c = simp length-take (omega arith)
