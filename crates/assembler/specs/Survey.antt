-- What one walk over the lines finds: the first declarations, the number of rules, and how many diagnostics the passes have.
use Rattle.std.specs.Prelude.{ℕ, ◌≡◌, List, length}
use Rattle.assembler.specs.declared.survey.Counts.{Counts}
use Rattle.assembler.specs.Rows.{rows}
use Rattle.assembler.specs.Entries.{entries}
use Rattle.assembler.specs.Failures.{line_errors}
use Rattle.assembler.specs.Declarations.{declarations, declaration_errors}
use Rattle.assembler.specs.Rules.{no_rules, rule_errors, rule_count}

-- what a walk over all lines found
pub record Surveyed (count : ℕ) (w first₀ first : List ℕ) (r : Counts) : Type 0 where
  pub declared : first ≡ declarations count first₀ (entries (rows count w))
  pub rules : r.rules ≡ rule_count no_rules (entries (rows count w))
  pub failures : r.failures ≡ length (line_errors (entries (rows count w)))
  pub names : r.names ≡ length (declaration_errors (rows count w) first₀ (entries (rows count w)))
  pub wrong : r.wrong ≡ length (rule_errors no_rules (entries (rows count w)))
