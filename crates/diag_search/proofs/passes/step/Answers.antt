-- The last pass is at a line, since something is to be found.
use Rattle.diag_search.proofs.Steps.{rules-inside, rule-stepped}
use Rattle.diag_search.proofs.passes.step.Goals as goal

pub rule-requires : goal.rule-requires
rule-requires c =
    let p = c.requires in
    (p.0.laid.few, rules-inside _ _ _ p.0 c.in-Rules.is p.1, p.0.tally)

pub returns-in-Rules : goal.returns-in-Rules
returns-in-Rules c =
    let p = c.requires in
    rule-stepped _ _ _ p.0 c.in-Rules.is _ (rules-inside _ _ _ p.0 c.in-Rules.is p.1) c.rule.ensures.taken c.rule.ensures.search
