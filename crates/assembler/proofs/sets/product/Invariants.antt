use Rattle.assembler.proofs.RuleLaws.{Counting}
use Rattle.assembler.proofs.sets.product.Given as goal

abbrev pub invariant-loop-i : goal.invariant-loop-i
invariant-loop-i l = Counting l.tokens.count l.tokens.words.now l.from l.to l.sets l.i
