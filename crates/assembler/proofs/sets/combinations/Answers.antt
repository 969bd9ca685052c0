use Rattle.assembler.proofs.RuleLaws.{combinations-plain}
use Rattle.assembler.proofs.sets.combinations.Goals as goal

pub returns-then-is_plain : goal.returns-then-is_plain
returns-then-is_plain c = combinations-plain _ _ c.is_plain.ensures c.if-is_plain.true
