-- What the row says of the number is the answer: one that has a rule is not open.
use Rattle.std.proofs.Common.{sym, ap, ◌∙◌}
use Rattle.runner_rules.specs.Firsts.{is_no_rule}
use Rattle.runner_rules.proofs.firsts.is_open.Goals as goal

pub returns-in-At : goal.returns-in-At
returns-in-At c = sym (ap is_no_rule (sym c.first_at.ensures ∙ c.in-At.is))
