use Rattle.infer.specs.Page.{indices_in}
use Rattle.infer.specs.Names.{row_of}
use Rattle.infer.proofs.Pages.{indices_at}
use Rattle.infer.proofs.WalkLaws.{Rest}
use Rattle.infer.proofs.names.Names.names_in.Given as goal

abbrev pub invariant-loop-x : goal.invariant-loop-x
invariant-loop-x l = Rest l.self l.repeats (indices_at (row_of l.self) l.x) l.marks l.out (indices_in (row_of l.self) l.line) l.fn.marks l.fn.out
