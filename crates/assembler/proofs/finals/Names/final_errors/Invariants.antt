use mathlib.Core.List.{[]}
use lib.Dec.{ltb}
use Rattle.assembler.specs.Finals.{names_of, final_errors}
use Rattle.assembler.specs.Marked.{row_of}
use Rattle.assembler.proofs.FinalLaws.{Listing}
use Rattle.assembler.proofs.finals.Names.final_errors.Given as goal

abbrev pub invariant-loop-i : goal.invariant-loop-i
invariant-loop-i l =
    Listing l.self l.declared (names_of (row_of l.self) l.q)
    (final_errors l.self.text.now (row_of l.self) (ltb l.q l.self.tokens.count) (names_of (row_of l.self) l.q) [] (names_of (row_of l.self) l.f)) l.fn.log l.log l.marks l.i
