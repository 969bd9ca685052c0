-- The steps done so far, and then the run of what is left, are the whole run.
use Rattle.running.specs.Batch.{content_of_text}
use Rattle.runner_tapes.specs.Shown.{Stands}
use Rattle.runner_rules.specs.Rules.{Knows}
use Rattle.runner_loop.specs.Steps.{configured}
use Rattle.runner_loop.proofs.Loop.{Comes}
use Rattle.runner_loop.proofs.one_tape.advance.Given as goal

abbrev pub invariant-loop-next : goal.invariant-loop-next
invariant-loop-next l = record {
  heads : Stands l.rules.tapes l.half l.at.heads;
  known : Knows l.rules l.at.state l.known;
  comes : Comes (content_of_text l.rules.text.now) l.half l.left
      (configured l.rules l.fn.from l.fn.cells) l.rest (configured l.rules l.at l.cells);
}

abbrev pub decreases-loop-next : goal.decreases-loop-next
decreases-loop-next l = l.rest
