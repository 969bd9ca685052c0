-- The seven words of the definition.
use Rattle.sheet.proofs.RuleLaws.{tape_put}
use Rattle.sheet.proofs.rules.tape.Goals as goal

pub returns : goal.returns
returns c = tape_put _ _ _ _ _ _ _ _ _ c.resolve-x.ensures c.written-y.ensures c.move_of.ensures c.words.ensures
