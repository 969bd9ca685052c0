-- What is left of the bytes is what the lengths up to here have not taken.
use Rattle.std.proofs.Common.{◌≡◌, length, drop}
use Rattle.running.specs.Batch.{lengths_fit}
use Rattle.runner.proofs.entries.Entries.lengths_fit.Given as goal

-- the lengths from here on fit into what is left exactly if all fit
abbrev pub invariant-loop-length : goal.invariant-loop-length
invariant-loop-length l =
    lengths_fit (drop l.length-index l.length-items) l.left ≡ lengths_fit l.self.lengths.now (length l.self.texts.now)
