use Rattle.std.proofs.Common.{◌-◌}
use Rattle.tokens.specs.Listed.{tokens_of}
use Rattle.sheet.proofs.RowLaws.{Ruling}
use Rattle.sheet.proofs.expand.rules.Given as goal

-- the rules of the lines from here on are left
abbrev pub invariant-loop-i : goal.invariant-loop-i
invariant-loop-i l = Ruling l.blank (tokens_of l.tokens) l.fn.sheet l.sheet l.p l.i

abbrev pub decreases-loop-i : goal.decreases-loop-i
decreases-loop-i l = l.tokens.count - l.i
