-- Answers for `lexer::names::number_among`: each turn takes one keyword off the table.
use Rattle.std.proofs.Common.{◌≡◌, arith}
use Rattle.std.proofs.lemmas.Grind.{common_steps}
use Rattle.lexer.proofs.Keywords.{number_here, number_behind, number_nowhere}
use Rattle.lexer.proofs.names.number_among.Goals as goal

pub returns-then-eq : goal.returns-then-eq
returns-then-eq g c =
    let e : c.loop-number-item.result.1 ≡ c.args.name.now = grind (arith, common_steps) in
    number_here _ _ _ _ _ c.loop-number.invariant c.loop-number-test.true c.loop-number-item.is e

pub loop-number-preserved : goal.loop-number-preserved
loop-number-preserved g c =
    let f : c.loop-number-item.result.1 ≡ c.args.name.now → ⊥ = grind (arith, common_steps) in
    number_behind _ _ _ _ _ c.loop-number.invariant c.loop-number-test.true c.loop-number-item.is f

pub returns : goal.returns
returns g c = number_nowhere _ _ _ _ c.loop-number.invariant c.loop-number-test.false
