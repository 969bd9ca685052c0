-- Describes the code: what a search for a rule answers, in the terms of crate running.
use Rattle.std.specs.Prelude.{ℕ, List, take, drop}
use Rattle.language.specs.Content.{RuleContent}
use Rattle.language.specs.Agreement.{at, rule_in}
use Rattle.running.specs.Run as Run
use Rattle.runner_rules.specs.declared.search.Rules.{Rules}
use Rattle.runner_rules.specs.declared.search.Due.{Due}
use Rattle.runner_rules.specs.declared.search.Due.TheVariants.{Halted, Stuck, Applies}

-- the record that begins at a word
abbrev pub record_at : Rules → ℕ → List ℕ
record_at r j = take (at r.words.now j) (drop j r.words.now)

-- its rule
abbrev pub rule_here : Rules → ℕ → RuleContent
rule_here r j = rule_in r.text.now (record_at r j)

-- what an answer says is due
abbrev pub due_at : Rules → Due → Run.Due
due_at r Halted = Run.stops Run.halted
due_at r Stuck = Run.stops Run.stuck
due_at r (Applies j) = Run.applies (rule_here r j)
