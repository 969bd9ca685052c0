use borrow.Author.Rules.{rules}
use Rattle.assembler.proofs.Rows.{kind-rest}
use Rattle.assembler.proofs.seek.kind_within.Goals as goal

pub returns-else-kind_before : goal.returns-else-kind_before
returns-else-kind_before c = search (rules, kind-rest)
