use Rattle.std.proofs.Common.{drop}
use Rattle.sheet.proofs.Puts.{Left}
use Rattle.sheet.proofs.put.Sheet.words.Given as goal

-- what is left of the words goes behind those that are stored
abbrev pub invariant-loop-x : goal.invariant-loop-x
invariant-loop-x g l = Left (drop l.x-index l.words) l.self l.words l.fn.self
