use Prim.Native.Nat.{◌-◌}
use Rattle.tokens.specs.Listed.{tokens_of}
use Rattle.assembler.specs.Entries.{entries}
use Rattle.assembler.specs.Rules.{rule_errors, no_rules}
use Rattle.assembler.proofs.RuleLaws.{Tallying}
use Rattle.assembler.proofs.rules.rules.Given as goal

abbrev pub invariant-loop-at : goal.invariant-loop-at
invariant-loop-at l = Tallying l.tokens.count l.tokens.words.now (rule_errors no_rules (entries (tokens_of l.tokens))) l.fn.log l.tally l.log l.at

abbrev pub decreases-loop-at : goal.decreases-loop-at
decreases-loop-at l = l.tokens.count - l.at
