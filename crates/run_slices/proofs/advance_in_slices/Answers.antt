-- The run of what is left, behind the steps so far, is the whole run.
use Rattle.std.proofs.Common.{◌≡◌, ℕ, List, ap, subst, ◌∙◌, arith, rules}
use mathlib.Core.Logic.{inl, inr}
use Rattle.running.specs.Tape.{half}
use Rattle.language.specs.Content.{Content}
use Rattle.running.specs.Tape.{Configuration}
use Rattle.running.specs.Run.{Ended, run_from}
use Rattle.runner_loop.specs.declared.Standing.{Standing}
use Rattle.runner_loop.specs.Steps.{AtWork}
use Rattle.running.proofs.Runs.{behind}
use Rattle.run_slices.proofs.Slices.{comes_start, comes_on, comes_end, steps_fit, is_spent, not_spent}
use Rattle.run_slices.proofs.advance_in_slices.Goals.{then-ne-via-then-ne, then-ne-via-else-ne+then-rest-eq0}
use Rattle.run_slices.proofs.advance_in_slices.Goals as goal

pub loop-end-init : goal.loop-end-init
loop-end-init g c = record { work = c.requires.work; comes = comes_start _ _ _ _ }

-- the slice is the run of so many steps, by the number of cells lent
slice_is : (m : Content) (tapes n k : ℕ) (slice : ℕ) (at : Configuration) (e : Ended) → e ≡ run_from m (half n tapes) slice at → n ≡ k
    → e ≡ run_from m (half k tapes) slice at
slice_is m tapes n k slice at e q s = q ∙ ap (λ i. run_from m (half i tapes) slice at) s

works : (text : List ℕ) (tapes n k : ℕ) (at : Standing) → AtWork text tapes n at → n ≡ k → AtWork text tapes k at
works text tapes n k at w s = subst (λ i. AtWork text tapes i at) s w

pub overflow_add-steps : goal.overflow_add-steps
overflow_add-steps g c =
    let is = slice_is _ _ _ _ _ _ _ c.advance-end.ensures.run c.loop-end.auto.cells in
    omega (arith, c.ranges.left.fits, steps_fit _ _ _ _ _ _ _ c.loop-end.invariant.comes _ (omega (arith, c.min-slice.ensures)) _ is)

pub returns-then-ne-clause-run : goal.returns-then-ne-clause-run
unfolding behind
returns-then-ne-clause-run g c =
    let is = slice_is _ _ _ _ _ _ _ c.advance-end.ensures.run c.loop-end.auto.cells in
    comes_end _ _ _ _ _ _ _ c.loop-end.invariant.comes _ (omega (arith, c.min-slice.ensures)) _ is
    (elim c.then-ne.branch [
      | then-ne-via-then-ne w ↦ inl (not_spent _ (search rules))
      | then-ne-via-else-ne+then-rest-eq0 w ↦ inr w.if-rest-eq0.true
    ])

pub loop-end-preserved : goal.loop-end-preserved
loop-end-preserved g c =
    let is = slice_is _ _ _ _ _ _ _ c.advance-end.ensures.run c.loop-end.auto.cells in
    record {
      work = works _ _ _ _ _ c.advance-end.ensures.work c.loop-end.auto.cells;
      comes = comes_on _ _ _ _ _ _ _ c.loop-end.invariant.comes _ (omega (arith, c.min-slice.ensures)) _ is (is_spent _ (search rules));
    }
