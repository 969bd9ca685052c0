-- The eleven words of the definition.
use Rattle.sheet.proofs.RuleLaws.{head_put}
use Rattle.sheet.proofs.rules.Rule.put_head.Goals as goal

pub returns : goal.returns
returns c = head_put _ _ _ _ _ _ _ _ _ c.at-from.ensures c.at-to.ensures c.at-line.ensures c.words.ensures
