-- An entry that is refused ends the readings; behind one that is accepted go the others.
use Rattle.std.proofs.Common.{refl, arith}
use Rattle.runner.proofs.AllRead.{ahead_all, text_fits, ahead_refused, ahead_more, ahead_none}
use Rattle.runner.proofs.readings.readings.Goals as goal

pub loop-i-init : goal.loop-i-init
loop-i-init c = record { ahead = ahead_all _ _ _ _ _ _ c.requires; untouched = λ _. refl }

pub split_at-requires : goal.split_at-requires
split_at-requires c = text_fits _ _ _ _ _ _ _ _ c.loop-i.invariant.ahead c.loop-i-test.true

pub returns-in-Err-clause-outcome : goal.returns-in-Err-clause-outcome
returns-in-Err-clause-outcome c =
    ahead_refused _ _ _ _ _ _ _ _ c.loop-i.invariant.ahead c.loop-i-test.true _ _ c.split_at.ensures.front c.split_at.ensures.back
    _ _ c.loop-i.auto.work refl _ c.in-Err.ensures.outcome _ refl

pub loop-i-preserved : goal.loop-i-preserved
loop-i-preserved c = record {
  ahead = ahead_more _ _ _ _ _ _ _ _ c.loop-i.invariant.ahead c.loop-i-test.true _ _ c.split_at.ensures.front c.split_at.ensures.back
      _ _ c.loop-i.auto.work refl _ c.in_default.ensures.outcome refl;
  untouched = λ e. absurd (omega (arith, e));
}

pub returns-clause-outcome : goal.returns-clause-outcome
returns-clause-outcome c = ahead_none _ _ _ _ _ _ _ _ c.loop-i.invariant.ahead c.loop-i-test.false
