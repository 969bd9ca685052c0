use borrow.Author.Rules.{rules}
use Rattle.assembler.proofs.RuleLaws.{total_fits, verdict-other, verdict_arity, verdict_expands, verdict_many}
use Rattle.assembler.proofs.rules.verdict_at.Goals as goal

pub returns-then-known-ne-RULE : goal.returns-then-known-ne-RULE
returns-then-known-ne-RULE c = search (rules, verdict-other)

pub returns-then-not-same_arity : goal.returns-then-not-same_arity
returns-then-not-same_arity c = search (rules, verdict_arity)

pub overflow_add-total : goal.overflow_add-total
overflow_add-total c = search (rules, total_fits)

pub returns-then-total-le-MAX_TRANSITIONS : goal.returns-then-total-le-MAX_TRANSITIONS
returns-then-total-le-MAX_TRANSITIONS c = search (rules, verdict_expands)

pub returns : goal.returns
returns c = search (rules, verdict_many)
