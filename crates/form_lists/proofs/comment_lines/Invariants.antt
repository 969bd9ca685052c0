use Rattle.std.proofs.Common.{map}
use Rattle.language.specs.Plain.{each, comment_line}
use Rattle.language.specs.Agreement.{groups, text_in}
use Rattle.form_strings.proofs.Chain.{Goes}
use Rattle.form_lists.proofs.Lists.{Names, texts}
use Rattle.form_lists.proofs.comment_lines.Given as goal

-- the lines that are left go behind what is written
abbrev pub invariant-loop-i : goal.invariant-loop-i
invariant-loop-i l = record {
  names : Names l.text 2 l.n l.i l.words;
  goes : Goes (each comment_line (texts l.text 2 l.n l.i l.words)) l.out (each comment_line (map (text_in l.text) (groups 2 l.n l.words))) l.fn.out;
}
