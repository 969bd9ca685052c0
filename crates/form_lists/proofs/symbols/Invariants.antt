use Rattle.language.specs.Plain.{commas, symbol}
use Rattle.form_strings.proofs.Chain.{Goes}
use Rattle.form_lists.specs.Places.{column}
use Rattle.form_lists.proofs.Lists.{Codes, codes, more}
use Rattle.form_lists.proofs.symbols.Given as goal

-- the symbols that are left go behind what is written
abbrev pub invariant-loop-i : goal.invariant-loop-i
invariant-loop-i l = record {
  valid : Codes l.k l.o l.n l.i l.words;
  goes : Goes (more symbol l.i (codes l.k l.o l.n l.i l.words)) l.out (commas symbol (column l.k l.o l.n l.words)) l.fn.out;
}
