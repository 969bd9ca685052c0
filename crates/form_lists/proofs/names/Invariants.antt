use Rattle.std.proofs.Common.{map}
use Rattle.language.specs.Plain.{commas, verbatim}
use Rattle.language.specs.Agreement.{groups, text_in}
use Rattle.form_strings.proofs.Chain.{Goes}
use Rattle.form_lists.proofs.Lists.{Names, texts, more}
use Rattle.form_lists.proofs.names.Given as goal

-- the names that are left go behind what is written
abbrev pub invariant-loop-i : goal.invariant-loop-i
invariant-loop-i l = record {
  names : Names l.text 3 l.n l.i l.words;
  goes : Goes (more verbatim l.i (texts l.text 3 l.n l.i l.words)) l.out (commas verbatim (map (text_in l.text) (groups 3 l.n l.words))) l.fn.out;
}
