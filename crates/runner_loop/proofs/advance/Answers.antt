-- The steps done so far, and then the run of what is left, are the whole run.
use mathlib.Core.Path.{refl, sym, ap, subst, ◌∙◌}
use native.Mathlib.Omega.{arith}
use Rattle.running.specs.Run.{run_from}
use Rattle.running.specs.Batch.{content_of_text}
use Rattle.running.proofs.Runs.{step_left}
use Rattle.runner_tapes.specs.Shown.{Stands}
use Rattle.runner_tapes.proofs.Blank.{own_below}
use Rattle.runner_loop.specs.Steps.{configured}
use Rattle.runner_loop.proofs.NoStart.{is_nowhere, is_somewhere, run_nowhere}
use Rattle.runner_loop.proofs.Loop.{comes_start, comes_on, comes_end}
use Rattle.runner_loop.proofs.advance.Goals as goal

pub returns-then-eq-clause-run : goal.returns-then-eq-clause-run
returns-then-eq-clause-run c =
    sym (run_nowhere _ c.requires.work.is_admitted _ (is_nowhere _ (sym c.if-eq.ensures)) _ _ _ refl)

pub advance-requires-clause-room : goal.advance-requires-clause-room
advance-requires-clause-room c = omega (arith, own_below _ _ _ c.half-half.ensures)

pub loop-next-init : goal.loop-next-init
loop-next-init c = record {
  heads = subst (λ h. Stands c.args.rules.now.tapes h c.args.from.heads) (sym c.half-half.ensures) c.requires.work.heads;
  known = c.known-known.ensures;
  comes = comes_start _ _ _ _;
}

pub step-requires-clause-room : goal.step-requires-clause-room
step-requires-clause-room c = omega (arith, own_below _ _ _ c.half-half.ensures)

pub loop-next-preserved : goal.loop-next-preserved
loop-next-preserved c = record {
  heads = c.in-Ok.ensures.heads;
  known = c.known_next-known.ensures;
  comes = comes_on _ _ _ _ _ _ c.loop-next.invariant.comes _ c.in-Ok.ensures.step;
}

pub returns-in-Err-clause-run : goal.returns-in-Err-clause-run
returns-in-Err-clause-run c =
    let start = configured c.args.rules.now c.args.from c.args.cells.now in
    comes_end _ _ _ _ _ _ c.loop-next.invariant.comes _ _ c.in-Err.ensures.step
    (ap (configured c.args.rules.now c.loop-next.at) c.in-Err.ensures.kept)
    ∙ ap (λ h. run_from (content_of_text c.args.rules.now.text.now) h c.args.left start) c.half-half.ensures

pub known-known-requires-clause-state : goal.known-known-requires-clause-state
known-known-requires-clause-state c = c.requires.work.state (is_somewhere _ (sym c.if-eq.ensures))

pub overflow_sub-rest : goal.overflow_sub-rest
overflow_sub-rest c = omega (arith, step_left _ _ _ _ _ (sym c.in-Ok.ensures.step))

pub loop-next-smaller : goal.loop-next-smaller
loop-next-smaller c = omega (arith, step_left _ _ _ _ _ (sym c.in-Ok.ensures.step))
