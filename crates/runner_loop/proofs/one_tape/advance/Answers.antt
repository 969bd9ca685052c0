-- The steps done so far, and then the run of what is left, are the whole run.
use mathlib.Core.Path.{ap, sym}
use native.Mathlib.Omega.{arith}
use Rattle.running.proofs.Runs.{step_left}
use Rattle.runner_loop.specs.Steps.{configured}
use Rattle.runner_loop.proofs.Loop.{comes_start, comes_on, comes_end}
use Rattle.runner_loop.proofs.one_tape.advance.Goals as goal

pub loop-next-init : goal.loop-next-init
loop-next-init c = record {
  heads = c.requires.heads;
  known = c.known-known.ensures;
  comes = comes_start _ _ _ _;
}

pub loop-next-preserved : goal.loop-next-preserved
loop-next-preserved c = record {
  heads = c.in-Ok.ensures.heads;
  known = c.known_next-known.ensures;
  comes = comes_on _ _ _ _ _ _ c.loop-next.invariant.comes _ c.in-Ok.ensures.step;
}

pub returns-in-Err-clause-run : goal.returns-in-Err-clause-run
returns-in-Err-clause-run c =
    comes_end _ _ _ _ _ _ c.loop-next.invariant.comes _ _ c.in-Err.ensures.step
    (ap (configured c.args.rules.now c.loop-next.at) c.in-Err.ensures.kept)

pub overflow_sub-rest : goal.overflow_sub-rest
overflow_sub-rest c = omega (arith, step_left _ _ _ _ _ (sym c.in-Ok.ensures.step))

pub loop-next-smaller : goal.loop-next-smaller
loop-next-smaller c = omega (arith, step_left _ _ _ _ _ (sym c.in-Ok.ensures.step))
