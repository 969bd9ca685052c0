-- Describes the code: what a run relies on, and what a step answers.
use Rattle.std.specs.Prelude.{ℕ, zero, suc, ◌≡◌, true, List, Result, Ok, Err}
use Rattle.language.specs.Content.{RuleContent}
use Rattle.language.specs.Layout.{no_place}
use Rattle.language.specs.Outcome.{admitted}
use Rattle.form_theorems.specs.Read.{machine_in}
use Rattle.running.specs.Tape.{half, Configuration}
use Rattle.running.specs.Run as Run
use Rattle.runner_answer.specs.Answer.{stop_in}
use Rattle.runner_answer.specs.declared.Stop.{Stop}
use Rattle.runner_tapes.specs.Shown.{Stands}
use Rattle.runner_names_theorems.specs.Names.{NamePlace}
use Rattle.runner_rules.specs.Due.{rule_here}
use Rattle.runner_rules.specs.declared.search.Rules.{Rules}
use Rattle.runner_loop.specs.declared.Standing.{Standing}
use Rattle.runner_loop.specs.Runs.{configuration_of}

-- a machine that was read at work on so many cells: its heads stand on its tapes, and its state, if it has one, is a name
pub record AtWork (text : List ℕ) (tapes cells : ℕ) (s : Standing) : Type 0 where
  pub is_admitted : admitted text ≡ true
  pub heads : Stands tapes (half cells tapes) s.heads
  pub state : (s.state ≡ no_place → ⊥) → NamePlace (machine_in text) s.state

-- the configuration of a machine, by its rules
abbrev pub configured : Rules → Standing → List ℕ → Configuration
configured r s cells = configuration_of r.text.now r.tapes s cells

-- the rule to apply with so many steps left, by what is due; or why there is none
abbrev pub due_with : Run.Due → ℕ → Result RuleContent Run.Stop
due_with (Run.stops s) left = Err s
due_with (Run.applies rule) zero = Err Run.spent
due_with (Run.applies rule) (suc left) = Ok rule

-- what the code answers of it
abbrev pub rule_or_stop : Rules → Result ℕ Stop → Result RuleContent Run.Stop
rule_or_stop r (Ok j) = Ok (rule_here r j)
rule_or_stop r (Err stop) = Err (stop_in stop)

-- what a step answers, with the cells as it leaves them
abbrev pub step_in : Rules → Result Standing Stop → List ℕ → Result Configuration Run.Stop
step_in r (Ok next) cells = Ok (configured r next cells)
step_in r (Err stop) cells = Err (stop_in stop)
