use borrow.Author.Rules.{rules}
use Rattle.diag.proofs.Appending.{appends_as, appends_nothing}
use Rattle.diag_search.proofs.NameLaws.{name_low, name_high, name_again, name-first}
use Rattle.diag_search.proofs.lines.name_error.Goals as goal

pub returns-then-t-lt-ITEM : goal.returns-then-t-lt-ITEM
returns-then-t-lt-ITEM c = appends_nothing _ _ (name_low _ _ _ c.at-t.ensures _ c.if-t-lt-ITEM.true)

pub returns-then-k-ge-DECLARATIONS : goal.returns-then-k-ge-DECLARATIONS
returns-then-k-ge-DECLARATIONS c = appends_nothing _ _ (search (rules, name_high))

pub returns-then-f-at : goal.returns-then-f-at
returns-then-f-at c = appends_as _ _ _ _ c.tapes_error.ensures (search (rules, name-first))

pub returns-else-f-at : goal.returns-else-f-at
returns-else-f-at c = appends_as _ _ _ _ c.duplicate.ensures (search (rules, name_again))
