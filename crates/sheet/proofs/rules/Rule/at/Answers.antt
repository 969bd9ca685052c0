-- The comma behind `from` holds the indices.
use Rattle.std.proofs.Common.{rules, ◌<◌, ◌^◌}
use Rattle.sheet.proofs.RuleLaws.{entry_small, rule_is}
use Rattle.sheet.proofs.rules.Rule.at.Goals as goal

pub returns-clause-parts : goal.returns-clause-parts
returns-clause-parts c = rule_is _ _ _ _ _ _ c.at-q.ensures c.first_entry.ensures c.first_entry-2.ensures

pub returns-clause-small : goal.returns-clause-small
returns-clause-small c =
    let write : c.at-q.result.end < 2 ^ 32 = search rules in
    let dir : c.at-q.result.value < 2 ^ 32 = search rules in
    (entry_small _ _ _ c.first_entry.ensures write, entry_small _ _ _ c.first_entry-2.ensures dir)
