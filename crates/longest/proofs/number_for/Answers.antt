-- Each size is one factor more.
use Rattle.std.proofs.Common.{◌≡◌, refl, ap, ◌∙◌, arith}
use Rattle.longest.specs.Line.{tapes_for, product_of, number_for}
use Rattle.longest.proofs.Numbers.{next_fits, next_is}
use Rattle.longest.proofs.Tapes.{few_tapes}
use Rattle.longest.proofs.number_for.Goals as goal

pub loop-tape-init : goal.loop-tape-init
unfolding product_of
loop-tape-init c = refl

pub overflow_mul-number : goal.overflow_mul-number
overflow_mul-number c =
    next_fits c.args.pairs c.loop-tape.tape c.loop-tape.number c.set_size.result c.requires (omega (arith, c.tapes_for-tape-end.ensures, (few_tapes c.args.pairs).five)) c.loop-tape.invariant c.set_size.ensures

pub loop-tape-preserved : goal.loop-tape-preserved
loop-tape-preserved c = next_is c.args.pairs c.loop-tape.tape c.loop-tape.number c.set_size.result c.loop-tape.invariant c.set_size.ensures

pub returns : goal.returns
unfolding number_for
returns c =
    let q : c.loop-tape.tape ≡ tapes_for c.args.pairs = omega (arith, c.tapes_for-tape-end.ensures) in
    c.loop-tape.invariant ∙ ap (product_of c.args.pairs) q
