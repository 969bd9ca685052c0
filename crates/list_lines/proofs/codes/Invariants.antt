use Rattle.std.proofs.Common.{◌-◌}
use Rattle.language.specs.Agreement.{groups}
use Rattle.list_lines.specs.Listing.{parted, codes}
use Rattle.list_lines.proofs.Chain.{Goes}
use Rattle.list_lines.proofs.Lists.{more}
use Rattle.list_lines.proofs.codes.Given as goal

-- the codes of the records that are left
abbrev pub invariant-loop-i : goal.invariant-loop-i
invariant-loop-i l = Goes (more l.sep l.i (codes l.o (groups l.k (l.n - l.i) l.rest))) l.out (parted l.sep (codes l.o (groups l.k l.n l.words))) l.fn.out
