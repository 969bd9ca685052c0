use borrow.Author.Rules.{rules}
use Rattle.diag.proofs.Appending.{appends_as, appends_nothing}
use Rattle.assembler.proofs.Rows.{length-rows}
use Rattle.assembler.proofs.DeclarationLaws.{declare_low, wrong_low, declare_high, wrong_high, declare_again, declare-first, wrong_again, wrong_first}
use Rattle.assembler.proofs.declarations.declaration.Goals as goal

pub returns-then-t-lt-ITEM-clause-first : goal.returns-then-t-lt-ITEM-clause-first
returns-then-t-lt-ITEM-clause-first c = search (rules, declare_low)

pub returns-then-t-lt-ITEM-clause-log : goal.returns-then-t-lt-ITEM-clause-log
returns-then-t-lt-ITEM-clause-log c = appends_nothing _ _ (wrong_low _ _ _ c.known-t.ensures _ c.if-t-lt-ITEM.true)

pub returns-then-k-ge-DECLARATIONS-clause-first : goal.returns-then-k-ge-DECLARATIONS-clause-first
returns-then-k-ge-DECLARATIONS-clause-first c = search (rules, declare_high)

pub returns-then-k-ge-DECLARATIONS-clause-log : goal.returns-then-k-ge-DECLARATIONS-clause-log
returns-then-k-ge-DECLARATIONS-clause-log c = appends_nothing _ _ (search (rules, wrong_high))

pub returns-in-Some-clause-first : goal.returns-in-Some-clause-first
returns-in-Some-clause-first c = search (rules, declare_again)

pub returns-in-Some-clause-log : goal.returns-in-Some-clause-log
returns-in-Some-clause-log c = appends_as _ _ _ _ c.duplicate.ensures (search (rules, length-rows, wrong_again))

pub returns-clause-first : goal.returns-clause-first
returns-clause-first c = search (rules, declare-first)

pub returns-clause-log : goal.returns-clause-log
returns-clause-log c = appends_as _ _ _ _ c.tapes_error.ensures (search (rules, length-rows, wrong_first))
