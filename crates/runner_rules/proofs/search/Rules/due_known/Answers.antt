-- What is said of the state is what is due, or where to search.
use Rattle.std.proofs.Common.{◌∙◌}
use Rattle.runner_rules.proofs.Searched.{due_halted, due_stuck, due_ahead, due_found}
use Rattle.runner_rules.proofs.search.Rules.due_known.Goals as goal

pub find-requires-clause-ahead : goal.find-requires-clause-ahead
find-requires-clause-ahead c =
    due_ahead c.args.self.now c.requires.rules c.args.state.name c.requires.known.named _ _ c.requires.known.first _ c.in-At.is

pub returns-in-Final-clause-due : goal.returns-in-Final-clause-due
returns-in-Final-clause-due c =
    due_halted c.args.self.now c.requires.rules c.args.state.name c.requires.known.named _ _ c.requires.known.first c.in-Final.is

pub returns-in-NoRule-clause-due : goal.returns-in-NoRule-clause-due
returns-in-NoRule-clause-due c =
    due_stuck c.args.self.now c.requires.rules c.args.state.name c.requires.known.named _ _ c.requires.known.first c.in-NoRule.is

pub returns-in-At-clause-due : goal.returns-in-At-clause-due
returns-in-At-clause-due c =
    c.find.ensures.due ∙ due_found c.args.self.now c.requires.rules c.args.state.name c.requires.known.named _ _ c.requires.known.first _ c.in-At.is
