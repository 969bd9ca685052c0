use Rattle.std.proofs.Common.{refl}
use Rattle.infer.proofs.NameLaws.{named_none, named_as, ◌▸◌}
use Rattle.infer.proofs.WalkLaws.{mention_none, mention_both}
use Rattle.infer.proofs.names.Names.mention.Goals as goal

pub returns-then-t-ne-RULE : goal.returns-then-t-ne-RULE
returns-then-t-ne-RULE c = named_as (mention_none _ _ _ c.requires.first c.if-t-ne-RULE.true) named_none

pub returns : goal.returns
returns c = named_as (mention_both _ _ _ c.requires.first _ _ _ c.at-comma.ensures c.if-t-ne-RULE.false refl refl) (c.name.ensures ▸ c.name-2.ensures)
