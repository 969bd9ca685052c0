-- `put` stores what there is room for: what is left of the part, stored behind what is there, is the part stored at the start.
use Rattle.std.proofs.Common.{rules}
use Rattle.emit.proofs.Appends.{part_full, part_start_lem, part-next, part_done}
use Rattle.emit.proofs.put.Goals as goal

pub loop-i-init : goal.loop-i-init
loop-i-init c = search (rules, part_start_lem)

pub loop-i-preserved : goal.loop-i-preserved
loop-i-preserved c = search (rules, part-next)

pub returns-then-row-at : goal.returns-then-row-at
returns-then-row-at c = part_full _ _ _ _ c.if-row-at.true c.saturating_add-end.ensures

pub returns : goal.returns
returns c = search (rules, part_done)
