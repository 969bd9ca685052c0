-- The one word of the record is the rule's symbol.
use Rattle.runner_rules.proofs.Applied.{symbol_written}
use Rattle.runner_rules.proofs.search.Rules.symbol_on_one_tape.Goals as goal

pub returns : goal.returns
returns c =
    symbol_written c.args.self.now c.args.rule c.requires.rule _ c.record-record.ensures.words c.requires.rules c.requires.tapes
