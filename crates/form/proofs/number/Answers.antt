-- The digits of the number of tapes are the definition's, and their own encoding.
use borrow.Author.Rules.{rules}
use Rattle.form.proofs.HeadWords.{number-written}
use Rattle.form.proofs.number.Goals as goal

ruleset laws = (rules, number-written)

pub returns : goal.returns
returns c = search laws
