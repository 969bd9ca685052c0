-- The heads and tapes that are left go behind those that are printed.
use Rattle.std.proofs.Common.{◌<◌, ◌∷◌, [], refl, ap, arith, length-take}
use Rattle.emit.proofs.Chain.{goes_start}
use Rattle.list_lines.proofs.Chain.{same}
use Rattle.runner_tapes.specs.Shown.{heads_of}
use Rattle.run_lines.specs.Lines.{tape_line}
use Rattle.run_lines.proofs.Lines.{all_fit, own_fits, behind_fits, tape_on, tape_end}
use Rattle.run_lines.proofs.heads_and_tapes.Goals as goal

pub loop-offset-init : goal.loop-offset-init
loop-offset-init c = record { room = all_fit _ _ _ c.requires.1; goes = goes_start (λ rest. refl) }

pub split_at-requires : goal.split_at-requires
split_at-requires c =
    own_fits _ _ _ _ c.loop-offset.invariant.room (omega (arith, c.loop-offset-test.true, length-take c.args.tapes (c.args.heads.first ∷ c.args.heads.second ∷ c.args.heads.third ∷ [])))

pub loop-offset-preserved : goal.loop-offset-preserved
unfolding heads_of
loop-offset-preserved c =
    let low : c.loop-offset.offset-index < c.args.tapes =
    omega (arith, c.loop-offset-test.true, length-take c.args.tapes (c.args.heads.first ∷ c.args.heads.second ∷ c.args.heads.third ∷ [])) in
    record {
      room = omega (arith, behind_fits _ _ _ _ c.loop-offset.invariant.room low, c.split_at.ensures.back_len);
      goes = rw c.split_at.ensures.back
          (tape_on _ _ _ _ _ c.loop-offset.invariant.goes c.loop-offset-test.true c.head.ensures
          (same (ap (tape_line c.args.half c.args.blank) c.split_at.ensures.front) c.tape.ensures));
    }

pub returns : goal.returns
unfolding heads_of
returns c = tape_end _ _ _ _ _ c.loop-offset.invariant.goes c.loop-offset-test.false
