use mathlib.Core.Path.{refl}
use borrow.Author.Rules.{rules}
use Rattle.diag_search.proofs.Taken.{given_log}
use Rattle.diag_search.proofs.LineSteps.{took_name}
use Rattle.diag_search.proofs.lines.name.Goals as goal

pub returns-clause-taken : goal.returns-clause-taken
returns-clause-taken c =
    took_name c.stepped.result c.moved.result c.name_error.new.log.row.now c.count-n.result (search rules) _ _ _ (given_log c.new-log.result _ _ _ _ c.new-log.ensures.none c.name_error.ensures refl c.count-n.ensures)
