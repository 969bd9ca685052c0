-- The one word of the record is the rule's direction.
use Rattle.runner_rules.proofs.Applied.{dir_moved}
use Rattle.runner_rules.proofs.search.Rules.direction_on_one_tape.Goals as goal

pub returns : goal.returns
returns c =
    dir_moved c.args.self.now c.args.rule c.requires.rule _ c.record-record.ensures.words c.requires.rules c.requires.tapes
