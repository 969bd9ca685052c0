use Rattle.diag.proofs.Appending.{appends_as, appends_nothing}
use Rattle.assembler.proofs.RuleLaws.{rule-other, rule_expands, rule_cut, rule_arity, rule_many}
use Rattle.assembler.proofs.rules.rule_error.Goals as goal

pub returns-in-WrongArity : goal.returns-in-WrongArity
returns-in-WrongArity c = appends_as _ _ _ _ c.append.ensures (rule_arity _ _ _ _ c.in-WrongArity.is c.error.ensures)

pub returns-then-not-cut : goal.returns-then-not-cut
returns-then-not-cut c = appends_as _ _ _ _ c.append-then-not-cut.ensures (rule_many _ _ _ _ c.in-TooMany.is c.if-not-cut.true c.error-then-not-cut.ensures)

pub returns-else-not-cut : goal.returns-else-not-cut
returns-else-not-cut c = appends_nothing _ _ (rule_cut _ _ _ c.in-TooMany.is c.if-not-cut.false)

pub returns-in-Other : goal.returns-in-Other
returns-in-Other c = appends_nothing _ _ (rule-other _ _ _ c.in-Other.is)

pub returns-in-Expands : goal.returns-in-Expands
returns-in-Expands c = appends_nothing _ _ (rule_expands _ _ _ _ c.in-Expands.is)
