use Rattle.std.proofs.Common.{map}
use Rattle.language.specs.Plain.{commas, direction}
use Rattle.language.specs.Agreement.{dir_of}
use Rattle.form_strings.proofs.Chain.{Goes}
use Rattle.form_lists.specs.Places.{column}
use Rattle.form_lists.proofs.Lists.{codes, more}
use Rattle.form_lists.proofs.directions.Given as goal

-- the moves that are left go behind what is written
abbrev pub invariant-loop-i : goal.invariant-loop-i
invariant-loop-i l = Goes (more direction l.i (map dir_of (codes 7 6 l.n l.i l.words))) l.out (commas direction (map dir_of (column 7 6 l.n l.words))) l.fn.out
