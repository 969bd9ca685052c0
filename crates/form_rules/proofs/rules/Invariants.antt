use Rattle.std.proofs.Common.{map, ◌-◌}
use Rattle.language.specs.Plain.{each, rule_lines}
use Rattle.language.specs.Agreement.{records, rule_in}
use Rattle.form_strings.proofs.Chain.{Goes}
use Rattle.form_rules.proofs.RuleWords.{Formed}
use Rattle.form_rules.proofs.rules.Given as goal

-- the rules that are left go behind what is written
abbrev pub invariant-loop : goal.invariant-loop
invariant-loop l = record {
  formed : Formed l.text l.n l.counter l.rest;
  goes : Goes (each rule_lines (map (rule_in l.text) (records (l.n - l.counter) l.rest))) l.out (each rule_lines (map (rule_in l.text) (records l.n l.words))) l.fn.out;
}
