-- A record is left, and the first rule that matches is among those from here on.
use Rattle.std.proofs.Common.{◌-◌, ◌<◌}
use Rattle.runner_tapes.specs.Shown.{symbols_of}
use Rattle.runner_rules.specs.Search.{Ahead}
use Rattle.runner_rules.proofs.search.Rules.find.Given as goal

-- the first rule that matches is among those from here on
abbrev pub invariant-loop-record : goal.invariant-loop-record
invariant-loop-record l = Ahead l.self l.state.name (symbols_of l.self.tapes l.symbols) l.at × (l.at < l.self.end)

abbrev pub decreases-loop-record : goal.decreases-loop-record
decreases-loop-record l = l.self.end - l.at
