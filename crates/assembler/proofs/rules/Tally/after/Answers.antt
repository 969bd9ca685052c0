use borrow.Author.Rules.{rules}
use Rattle.assembler.proofs.RuleLaws.{after-other, after_arity, after_many, after_expands}
use Rattle.assembler.proofs.rules.Tally.after.Goals as goal

pub returns-in-Other : goal.returns-in-Other
returns-in-Other c = search (rules, after-other, after_arity)

pub returns-in-TooMany : goal.returns-in-TooMany
returns-in-TooMany c = after_many _ _ c.in-TooMany.is

pub returns-in-Expands : goal.returns-in-Expands
returns-in-Expands c = after_expands _ _ _ c.in-Expands.is
