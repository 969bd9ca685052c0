-- Each record is stored for its number unless something is said of that.
use Rattle.std.proofs.Common.{◌≤◌, ◌∙◌, sym, arith}
use Rattle.runner_rules.proofs.Row.{no_rule, other_than_no_rule}
use Rattle.runner_rules.proofs.Records.{marking_start, marked, marked_end, start_inside, number_inside, marking_put, marking_keep}
use Rattle.runner_rules.proofs.firsts.of_rules.Goals as goal
use Rattle.runner_rules.proofs.firsts.of_rules.Goals.{then-is_open, else-is_open}

pub loop-i-init : goal.loop-i-init
loop-i-init c = marking_start _ _ _ _ c.requires

pub bounds-numbers-from : goal.bounds-numbers-from
bounds-numbers-from c = start_inside _ _ _ _ _ _ _ c.loop-i.invariant c.loop-i-test.true _ c.rule_at-rule.ensures _ c.from.ensures

pub is_open-requires : goal.is_open-requires
is_open-requires c = number_inside _ _ _ _ _ _ _ c.loop-i.invariant c.loop-i-test.true _ c.rule_at-rule.ensures _ c.from.ensures

pub put-requires : goal.put-requires
put-requires c = number_inside _ _ _ _ _ _ _ c.loop-i.invariant c.loop-i-test.true _ c.rule_at-rule.ensures _ c.from.ensures

pub loop-i-preserved : goal.loop-i-preserved
loop-i-preserved c =
    let here = c.loop-i.invariant in
    let low = c.loop-i-test.true in
    let small : c.length.result ≤ 4294967295 = omega (arith, c.length.type_inv) in
    elim c.if-is_open.branch [
      | then-is_open w ↦ rw w.row-is
          (marking_put _ _ _ _ _ _ _ here low _ c.rule_at-rule.ensures _ c.from.ensures _ c.length.ensures small _ (omega (arith, c.ranges.count.fits)) w.put.auto.row (no_rule _ (sym c.is_open.ensures ∙ w.if-is_open.true)) w.put.ensures)
      | else-is_open w ↦ rw w.row-is
          (marking_keep _ _ _ _ _ _ _ here low _ c.rule_at-rule.ensures _ c.from.ensures _ c.length.ensures small (other_than_no_rule _ (sym c.is_open.ensures ∙ w.if-is_open.false)))
    ]

pub returns-clause-row : goal.returns-clause-row
returns-clause-row c = marked _ _ _ _ _ _ _ c.loop-i.invariant c.loop-i-test.false

pub returns-clause-end : goal.returns-clause-end
returns-clause-end c = marked_end _ _ _ _ _ _ _ c.loop-i.invariant c.loop-i-test.false
