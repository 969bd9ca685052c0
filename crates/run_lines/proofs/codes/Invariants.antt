-- The cells that are left have the codes that are still to be printed.
use Rattle.std.proofs.Common.{drop}
use Rattle.language.specs.Plain.{each}
use Rattle.list_lines.proofs.Chain.{Goes}
use Rattle.run_lines.specs.Lines.{code}
use Rattle.run_lines.proofs.codes.Given as goal

-- the codes of the cells that are left
abbrev pub invariant-loop-c : goal.invariant-loop-c
invariant-loop-c l = Goes (each code (drop l.c-index l.cells)) l.out (each code l.cells) l.fn.out
