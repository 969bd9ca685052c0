-- The tapes are swept one after the other; what is made blank of one stands on it, and so in the row.
use Rattle.std.proofs.Common.{◌≡◌, ◌<◌, ℕ, length, subst, rules, arith}
use Rattle.runner_tapes.proofs.Blank.{tapes_fit}
use Rattle.runner_blanks.proofs.Swept.{swept_none, near_le, near_fits, swept_more, swept_all, Swept}
use Rattle.runner_blanks.proofs.blank_near.Goals as goal

pub loop-tape-init : goal.loop-tape-init
loop-tape-init c = swept_none _ _

pub overflow_mul-middle-in-loop-tape : goal.overflow_mul-middle-in-loop-tape
overflow_mul-middle-in-loop-tape c =
    let more : c.loop-tape.tape < c.args.known.tapes = omega (arith, c.loop-tape-test.true, c.from-tape-end.ensures) in
    let fits = near_fits _ _ c.requires (tapes_fit _ _) _ more _ c.loop-tape.invariant _ _ c.half-half.ensures c.min-reach.ensures in
    let short : length c.args.cells.now < 18446744073709551616 = search rules in
    omega (arith, fits, short, c.loop-tape.auto.cells)

pub overflow_add-middle-in-loop-tape : goal.overflow_add-middle-in-loop-tape
overflow_add-middle-in-loop-tape c =
    let more : c.loop-tape.tape < c.args.known.tapes = omega (arith, c.loop-tape-test.true, c.from-tape-end.ensures) in
    let fits = near_fits _ _ c.requires (tapes_fit _ _) _ more _ c.loop-tape.invariant _ _ c.half-half.ensures c.min-reach.ensures in
    let short : length c.args.cells.now < 18446744073709551616 = search rules in
    omega (arith, fits, short, c.loop-tape.auto.cells)

pub blank_part-requires : goal.blank_part-requires
blank_part-requires c =
    let more : c.loop-tape.tape < c.args.known.tapes = omega (arith, c.loop-tape-test.true, c.from-tape-end.ensures) in (
      near_le _ _ c.requires (tapes_fit _ _) _ more _ c.loop-tape.invariant _ _ c.half-half.ensures c.min-reach.ensures,
      near_fits _ _ c.requires (tapes_fit _ _) _ more _ c.loop-tape.invariant _ _ c.half-half.ensures c.min-reach.ensures,
    )

pub loop-tape-preserved : goal.loop-tape-preserved
loop-tape-preserved c =
    let more : c.loop-tape.tape < c.args.known.tapes = omega (arith, c.loop-tape-test.true, c.from-tape-end.ensures) in
    swept_more _ _ c.requires (tapes_fit _ _) _ more _ c.loop-tape.invariant _ _ c.half-half.ensures c.min-reach.ensures _ c.blank_part.ensures

pub returns : goal.returns
returns c =
    let e : c.loop-tape.tape ≡ c.args.known.tapes = omega (arith, c.loop-tape-test.false, c.loop-tape.auto.tape-end, c.from-tape-end.ensures) in
    swept_all _ _ c.requires (tapes_fit _ _) _ (subst (λ (j : ℕ). Swept c.args.known c.args.cells.now j c.loop-tape.cells) e c.loop-tape.invariant)
