use borrow.Author.Rules.{rules}
use Rattle.assembler.proofs.RuleLaws.{arity_same, arity_other}
use Rattle.assembler.proofs.rules.same_arity.Goals as goal

pub returns-then-p : goal.returns-then-p
returns-then-p c = arity_same _ c.if-p.true

pub returns-else-p : goal.returns-else-p
returns-else-p c = search (rules, arity_other)
