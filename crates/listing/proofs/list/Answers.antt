-- Each case of the answer has its lines.
use Rattle.std.proofs.Common.{rules}
use Rattle.listing.proofs.Whole.{machine-listed, diagnostics-listed, refused-listed}
use Rattle.listing.proofs.list.Goals as goal

pub returns-in-Ok-Machine : goal.returns-in-Ok-Machine
returns-in-Ok-Machine c = machine-listed _ _ _ _ _ c.in-Ok-Machine.head c.in-Ok-Machine.is (search rules) c.machine.ensures

pub returns-in-Ok-Diagnostics : goal.returns-in-Ok-Diagnostics
returns-in-Ok-Diagnostics c = diagnostics-listed _ _ _ _ _ c.in-Ok-Diagnostics.n c.in-Ok-Diagnostics.is (search rules) c.diagnosed.ensures

pub returns-in-Err : goal.returns-in-Err
returns-in-Err c = refused-listed _ _ _ _ _ c.in-Err.is _ _ c.number.ensures c.value.ensures c.refused.ensures
