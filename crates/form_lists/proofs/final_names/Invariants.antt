use Rattle.std.proofs.Common.{map, ◌≤◌}
use Rattle.language.specs.Plain.{commas, verbatim, final_names}
use Rattle.language.specs.Agreement.{groups, state_in}
use Rattle.form_strings.proofs.Chain.{Goes}
use Rattle.form_lists.proofs.Lists.{Names, more}
use Rattle.form_lists.proofs.Finals.{finals}
use Rattle.form_lists.proofs.final_names.Given as goal

-- the names that are left go behind what is written
abbrev pub invariant-loop-i : goal.invariant-loop-i
invariant-loop-i l = record {
  few : l.count ≤ l.i;
  names : Names l.text 3 l.n l.i l.words;
  goes : Goes (more verbatim l.count (finals l.text l.n l.i l.words)) l.out (commas verbatim (final_names (map (state_in l.text) (groups 3 l.n l.words)))) l.fn.out;
}
