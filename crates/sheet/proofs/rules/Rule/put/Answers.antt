-- The head of a rule, its tapes and the comments that lead it are put one after the other.
use Rattle.sheet.proofs.CommentLaws.{many}
use Rattle.sheet.proofs.RuleLaws.{rule-size, rule_put}
use Rattle.sheet.proofs.rules.Rule.put.Goals as goal

pub put_head-requires : goal.put_head-requires
put_head-requires c = (c.requires.placed.line, rule-size _ _ _ _ c.count_between-k.ensures _ (many c.args.tokens.now) c.requires.placed)

pub returns : goal.returns
returns c = rule_put _ _ _ _ c.count_between-k.ensures _ _ _ _ _ _ _ c.requires.members c.put_head.ensures c.put_tapes.ensures c.comments.ensures
