-- A character more is one step more, and where none is left all are counted.
use Rattle.positions.proofs.Scans.{scan, steps_end, cut}
use Rattle.positions.proofs.line_column.Goals as goal

pub loop-c-preserved : goal.loop-c-preserved
loop-c-preserved c = record { inside = search scan; total = search scan; near = search scan }

pub returns : goal.returns
returns c = cut _ _ _ _ c.min.ensures (steps_end _ _ _ c.char_at.ensures.found c.in_default.is _ _ c.loop-c.invariant.total)
