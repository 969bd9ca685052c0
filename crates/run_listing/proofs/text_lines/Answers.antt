-- Each case of the answer has its lines.
use Rattle.std.proofs.Common.{rules}
use Rattle.run_listing.proofs.Lines.{machine_read, put_machine, put_diagnosed, put_refused}
use Rattle.run_listing.proofs.text_lines.Goals as goal

pub described-requires-clause-read : goal.described-requires-clause-read
described-requires-clause-read g c =
    machine_read _ c.args.steps 0 _ _ _ _ _ _ c.read.ensures.0 _ c.in-Ok-Machine.head c.in-Ok-Machine.is (search rules)

pub returns-in-Ok-Machine : goal.returns-in-Ok-Machine
returns-in-Ok-Machine g c =
    put_machine _ _ _ _ _ _ _ _ _ c.read.ensures.0 c.filled-work.ensures c.filled-log.ensures c.filled-sheet.ensures _ c.in-Ok-Machine.head c.in-Ok-Machine.is (search rules)
    c.described.ensures

pub returns-in-Ok-Diagnostics : goal.returns-in-Ok-Diagnostics
returns-in-Ok-Diagnostics g c =
    put_diagnosed _ _ _ _ _ _ _ _ _ c.read.ensures.0 c.filled-work.ensures c.filled-log.ensures c.filled-sheet.ensures _ c.in-Ok-Diagnostics.n c.in-Ok-Diagnostics.is (search rules)
    c.diagnosed.ensures

pub returns-in-Err : goal.returns-in-Err
returns-in-Err g c =
    put_refused _ _ _ _ _ _ _ _ _ c.read.ensures.0 c.filled-work.ensures c.filled-log.ensures c.filled-sheet.ensures _ c.in-Err.is _ _ c.number.ensures c.value.ensures
    c.refused-in-Err.ensures
