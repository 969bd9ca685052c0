use Rattle.assembler_names.specs.Indexed.{Indexed}
use Rattle.assembler_names.proofs.table.Layout.index.Given as goal

abbrev pub invariant-loop-x : goal.invariant-loop-x
invariant-loop-x l = Indexed l.words l.self l.x l.row l.slots
