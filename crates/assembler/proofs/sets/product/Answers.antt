use borrow.Author.Rules.{rules}
use Rattle.assembler.proofs.RuleLaws.{combinations-none, counting_start, counting_on, counting_least, counting_below}
use Rattle.assembler.proofs.sets.product.Goals as goal

pub returns-then-not-has_kind : goal.returns-then-not-has_kind
returns-then-not-has_kind c = search (rules, combinations-none)

pub loop-i-init : goal.loop-i-init
loop-i-init c = counting_start _ _ _ _

pub loop-i-preserved : goal.loop-i-preserved
loop-i-preserved c = counting_on _ _ _ _ _ _ c.loop-i.invariant c.args.tokens.now.within _ _ (counting_below _ _ _ _ c.min-i-end.ensures c.loop-i-test.true).0 (counting_below _ _ _ _ c.min-i-end.ensures c.loop-i-test.true).1 c.at.ensures c.counted-sets.ensures

pub returns : goal.returns
returns c = counting_least _ _ _ _ _ _ c.loop-i.invariant c.args.tokens.now.within _ c.min-i-end.ensures c.loop-i-test.false
