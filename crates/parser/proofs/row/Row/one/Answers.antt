use Rattle.std.proofs.Common.{rules}
use Rattle.parser.proofs.Single.{test_fits, one_yes, one_no}
use Rattle.parser.proofs.row.Row.one.Given as given
use Rattle.parser.proofs.row.Row.one.Goals as goal

pub overflow_add-result : goal.overflow_add-result
overflow_add-result g c =
    test_fits (given.F-post g c.args.test) c.args.self.words.now c.args.at c.token-t.result c.test.result c.token-t.ensures c.test.ensures c.if-test.true c.requires.refuses (search rules)

pub returns-then-test : goal.returns-then-test
returns-then-test g c = λ f says. one_yes _ _ _ c.token-t.ensures f _ (says _ _ c.test.ensures) c.if-test.true

pub returns : goal.returns
returns g c = λ f says. one_no _ _ _ c.token-t.ensures f _ (says _ _ c.test.ensures) _ c.if-test.false (search rules)
