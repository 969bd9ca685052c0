use mathlib.Core.Path.{refl}
use Rattle.tokens.specs.Listed.{tokens_of}
use borrow.Author.Rules.{rules}
use Rattle.diag_search.proofs.Taken.{given_log}
use Rattle.diag_search.proofs.LineSteps.{took_failure}
use Rattle.diag_search.proofs.lines.failure.Goals as goal

pub returns-clause-taken : goal.returns-clause-taken
returns-clause-taken c =
    took_failure c.stepped.result c.moved.result c.line_error.new.log.row.now c.count-n.result (search rules) (tokens_of c.args.tokens.now) c.args.s.at _ c.at-t.ensures (given_log c.new-log.result _ _ _ _ c.new-log.ensures.none c.line_error.ensures refl c.count-n.ensures)
