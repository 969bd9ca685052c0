-- Two words are looked up.
use Rattle.std.proofs.Common.{refl}
use Rattle.runner_rules.proofs.search.Rules.known.Goals as goal

pub returns : goal.returns
returns c = record { at_name = refl; named = c.requires.state; number = refl; first = c.first_at.ensures }
