use Rattle.assembler.specs.Finals.{names_of}
use Rattle.assembler.specs.Marked.{row_of}
use Rattle.assembler.proofs.FinalLaws.{Marking}
use Rattle.assembler.proofs.finals.Names.mark_states.Given as goal

abbrev pub invariant-loop-i : goal.invariant-loop-i
invariant-loop-i l = Marking l.self (names_of (row_of l.self) l.q) l.marks l.i
