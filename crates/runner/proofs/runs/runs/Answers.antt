-- An entry that the readings accepted is accepted again, and what ran so far goes on with what it leaves.
use Rattle.std.proofs.Common.{◌*◌, ◌≤◌, length, refl, sym, ap, arith}
use Rattle.runner.proofs.AllRead.{text_fits, ahead_accepted, ahead_more, ahead_none}
use Rattle.runner.proofs.AllRan.{ran_none, run_within, run_next, run_last, ran_cells, ran_answers}
use Rattle.runner.proofs.runs.runs.Goals as goal

pub loop-i-init : goal.loop-i-init
loop-i-init c = record {
  ahead = record { fit = c.requires.fit; goes = sym c.requires.read };
  ran = ran_none _ _ _ _;
  known = λ j p more on far. absurd (omega (arith, more));
  untouched = λ _. refl;
}

pub split_at-requires : goal.split_at-requires
split_at-requires c = text_fits _ _ _ _ _ _ _ _ c.loop-i.invariant.ahead c.loop-i-test.true

pub unreachable-requires : goal.unreachable-requires
unreachable-requires c =
    ahead_accepted _ _ _ _ _ _ _ _ c.loop-i.invariant.ahead c.loop-i-test.true _ _ c.split_at.ensures.front c.split_at.ensures.back
    _ _ c.loop-i.auto.work c.loop-i.auto.cells _ c.in_default.ensures.outcome _ _ _ refl refl

pub overflow_sub-left : goal.overflow_sub-left
overflow_sub-left c =
    run_within _ _ _ _ _ _ _ _ _ _ c.loop-i.invariant.ran c.loop-i-test.true _ _ c.split_at.ensures.front c.split_at.ensures.back _
    c.run_on.ensures.ended

pub loop-i-preserved : goal.loop-i-preserved
loop-i-preserved c = record {
  ahead = ahead_more _ _ _ _ _ _ _ _ c.loop-i.invariant.ahead c.loop-i-test.true _ _ c.split_at.ensures.front c.split_at.ensures.back
      _ _ c.loop-i.auto.work c.loop-i.auto.cells _ c.in-Ok.ensures.outcome refl;
  ran = run_next _ _ _ _ _ _ _ _ _ _ c.loop-i.invariant.ran c.loop-i-test.true _ _ c.split_at.ensures.front c.split_at.ensures.back _
      c.run_on.ensures.ended _ c.number.ensures (omega (arith, c.requires.room, c.loop-i.auto.answers));
  known = c.run_on.ensures.known;
  untouched = λ e. absurd (omega (arith, e));
}

pub returns-clause-log : goal.returns-clause-log
returns-clause-log c = ap (λ r. r.log) (ahead_none _ _ _ _ _ _ _ _ c.loop-i.invariant.ahead c.loop-i-test.false)

pub returns-clause-sheet : goal.returns-clause-sheet
returns-clause-sheet c = ap (λ r. r.sheet) (ahead_none _ _ _ _ _ _ _ _ c.loop-i.invariant.ahead c.loop-i-test.false)

pub returns-clause-ran : goal.returns-clause-ran
returns-clause-ran c =
    let last = run_last _ _ _ _ _ _ _ _ _ _ c.loop-i.invariant.ran c.loop-i-test.false in
    let room : 2 * c.loop-i.i ≤ length c.loop-i.answers = omega (arith, c.requires.room, c.loop-i.auto.answers, c.loop-i.auto.i-end) in
    (ran_cells _ _ _ _ _ _ _ _ last room, ran_answers _ _ _ _ _ _ _ _ last room)
