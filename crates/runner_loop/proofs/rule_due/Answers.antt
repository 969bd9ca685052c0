-- What is due is a stop, or a rule that is applied if a step is left.
use Rattle.runner_answer.specs.declared.Stop.TheVariants.{Halted, Stuck}
use Rattle.runner_loop.proofs.RuleDue.{stops_so, none_left, one_left}
use Rattle.runner_loop.proofs.rule_due.Goals as goal

pub returns-in-Halted-clause-due : goal.returns-in-Halted-clause-due
returns-in-Halted-clause-due c = stops_so c.args.rules.now _ _ Halted c.in-Halted.ensures.due

pub returns-in-Stuck-clause-due : goal.returns-in-Stuck-clause-due
returns-in-Stuck-clause-due c = stops_so c.args.rules.now _ _ Stuck c.in-Stuck.ensures.due

pub returns-then-left-eq0-clause-due : goal.returns-then-left-eq0-clause-due
returns-then-left-eq0-clause-due c = none_left c.args.rules.now _ _ _ c.in-Applies.ensures.due c.if-left-eq0.true

pub returns-clause-due : goal.returns-clause-due
returns-clause-due c = one_left c.args.rules.now _ _ _ c.in-Applies.ensures.due c.if-left-eq0.false
