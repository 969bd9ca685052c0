-- The digits of what is left, in front of those in the row, are the number's.
use Rattle.std.proofs.Common.{arith, rules, refl}
use Rattle.emit.specs.Decimal.{decimal}
use Rattle.emit.proofs.Digits.{digits-left, digits_fits, digits-next, digits_room, digits_stored}
use Rattle.emit.proofs.Output.decimal.Goals as goal

pub loop-left-init : goal.loop-left-init
unfolding decimal
loop-left-init c = record { first = search rules; last = search rules; long = refl; fits = omega (arith, c.ranges.n.fits); digits = refl }

pub loop-left-preserved : goal.loop-left-preserved
loop-left-preserved c =
    let l = c.loop-left.invariant in
    record {
      first = digits-left _ _ c.loop-left-test.true l.fits;
      last = omega (arith, l.last);
      long = digits_room _ _ _ l.long;
      fits = digits_fits _ _ c.loop-left-test.true l.fits;
      digits = digits-next _ _ c.loop-left-test.true l.fits _ _ l.last l.long l.digits;
    }

pub returns : goal.returns
returns c =
    let l = c.loop-left.invariant in
    digits_stored _ _ _ _ _ _ l.first l.last l.long (omega arith) l.digits (search rules)
