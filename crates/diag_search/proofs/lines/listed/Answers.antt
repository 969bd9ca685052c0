use mathlib.Core.Path.{refl}
use borrow.Author.Rules.{rules}
use Rattle.diag_search.proofs.LineSteps.{took_listed}
use Rattle.diag_search.proofs.lines.listed.Goals as goal

pub returns-clause-taken : goal.returns-clause-taken
returns-clause-taken c =
    took_listed c.stepped.result c.moved.result c.final_at.new.log.row.now c.count-n.result (search rules) c.args.names.now _ _ _ _ c.new-log.result _ c.new-log.ensures.none refl c.count-n.ensures c.final_at.ensures.listed
