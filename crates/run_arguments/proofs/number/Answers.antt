-- The digits that are left, behind the number so far, are the number; what has more than 64 bits stays so.
use Rattle.std.proofs.Common.{◌≡◌, ◌+◌, ◌-◌, ◌*◌, ◌∙◌, get_or, arith, rules}
use Rattle.run_arguments.proofs.Digits.{start, nothing, ends, goes_on, stops, overflows}
use Rattle.run_arguments.proofs.number.Goals as goal

pub returns-then-is_empty : goal.returns-then-is_empty
returns-then-is_empty c = nothing _ (search rules)

pub loop-digit-init : goal.loop-digit-init
loop-digit-init c = record { fits = omega arith; all = start _ (search rules) }

pub returns-then-not-is_ascii_digit : goal.returns-then-not-is_ascii_digit
returns-then-not-is_ascii_digit c = stops _ _ _ c.loop-digit.invariant.all c.loop-digit-test.true (search rules)

pub returns-in_err-checked_mul : goal.returns-in_err-checked_mul
returns-in_err-checked_mul c =
    let wide = c.in_err-checked_mul.ensures in
    c.from_residual.ensures ∙ overflows _ _ _ c.loop-digit.invariant.all c.loop-digit-test.true (search rules) (omega (arith, wide))

pub returns-in_err-value : goal.returns-in_err-value
returns-in_err-value c =
    let wide = c.in_err-value.ensures in
    let times = c.in_ok-checked_mul.ensures in
    c.from_residual-in_err-value.ensures
    ∙ overflows _ _ _ c.loop-digit.invariant.all c.loop-digit-test.true (search rules) (omega (arith, wide, times.0, times.1, c.into.ensures))

pub loop-digit-preserved : goal.loop-digit-preserved
loop-digit-preserved c =
    let sum = c.in_ok-value.ensures in
    let times = c.in_ok-checked_mul.ensures in
    let next : c.in_ok-value.value ≡ 10 * c.loop-digit.value + (get_or c.args.digits.now c.loop-digit.digit-index 0 - 0x30) =
    omega (arith, sum.0, sum.1, times.0, times.1, c.into.ensures) in
    record {
      fits = omega (arith, sum.0, sum.1);
      all = rw next (goes_on _ _ _ c.loop-digit.invariant.all c.loop-digit-test.true (search rules));
    }

pub returns : goal.returns
returns c = ends _ _ _ c.loop-digit.invariant.all c.loop-digit-test.false c.loop-digit.invariant.fits
