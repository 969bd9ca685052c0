-- A record stands among the words, with its actions.
use Rattle.std.proofs.Common.{◌-◌, arith, length, drop, length-take, length-drop}
use Rattle.runner_rules.proofs.Applied.{has_actions}
use Rattle.runner_rules.proofs.search.Rules.record.Goals as goal

pub returns-clause-room : goal.returns-clause-room
returns-clause-room c =
    let words = c.args.self.now.words.now in
    omega (arith, has_actions c.args.self.now c.args.at c.requires, length-drop c.args.at words, length-take (length words - c.args.at) (drop c.args.at words))
