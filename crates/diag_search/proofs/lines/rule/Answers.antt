use mathlib.Core.Path.{refl}
use borrow.Author.Rules.{rules}
use Rattle.diag_search.proofs.Taken.{given_log}
use Rattle.diag_search.proofs.LineSteps.{took_rule}
use Rattle.diag_search.proofs.lines.rule.Goals as goal

pub returns-clause-taken : goal.returns-clause-taken
returns-clause-taken c =
    took_rule c.stepped.result c.tallied.result c.rule_error.new.log.row.now c.count-n.result (search rules) _ c.args.s _ _ c.at-t.ensures c.verdict_at-v.ensures _ c.span_of.ensures (given_log c.new-log.result _ _ _ _ c.new-log.ensures.none c.rule_error.ensures refl c.count-n.ensures)
