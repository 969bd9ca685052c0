-- The run so far and the run of what is left make up the whole.
use Rattle.std.proofs.Common.{length}
use Rattle.running.specs.Tape.{half}
use Rattle.running.specs.Batch.{content_of_text}
use Rattle.runner_loop.specs.Runs.{configuration_of}
use Rattle.runner_loop.specs.Steps.{AtWork}
use Rattle.run_slices.proofs.Slices.{RunSoFar}
use Rattle.run_slices.proofs.advance_in_slices.Given as goal

-- the run of what is left, behind the steps so far, is the whole run
abbrev pub invariant-loop-end : goal.invariant-loop-end
invariant-loop-end g l =
    let text = l.rules.text.now in
    let tapes = l.rules.tapes in
    record {
      work : AtWork text tapes (length l.fn.cells) l.at;
      comes : RunSoFar (content_of_text text) (half (length l.fn.cells) tapes) l.left (configuration_of text tapes l.fn.from l.fn.cells) l.steps l.rest
          (configuration_of text tapes l.at l.cells);
    }

abbrev pub decreases-loop-end : goal.decreases-loop-end
decreases-loop-end g l = l.rest
