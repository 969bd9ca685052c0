-- The place in the record is that of the rule's state.
use Rattle.runner_rules.proofs.Applied.{name_to, named_to}
use Rattle.runner_rules.proofs.search.Rules.next_state.Goals as goal

pub returns-clause-name : goal.returns-clause-name
returns-clause-name c = search (name_to c.args.self.now c.args.rule c.requires.rule _ c.record-record.ensures.words)

pub returns-clause-named : goal.returns-clause-named
returns-clause-named c = search (named_to c.args.self.now c.args.rule c.requires.rule _ c.record-record.ensures.words)
