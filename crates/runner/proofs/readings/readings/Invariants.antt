-- The readings that are left, on log and sheet as they are by now, end as all readings do.
use Rattle.std.proofs.Common.{◌≡◌, length}
use Rattle.running.specs.Batch.{entry_texts, readings}
use Rattle.runner.specs.Entry.{room_of}
use Rattle.runner.proofs.AllRead.{LeftToRead}
use Rattle.runner.proofs.readings.readings.Given as goal

-- what is left to read gives what reading all gives; and at first work is untouched
abbrev pub invariant-loop-i : goal.invariant-loop-i
invariant-loop-i l =
    let all = readings (room_of (length l.fn.work) l.cells) 0 (entry_texts l.lengths l.fn.entries.texts.now) l.fn.log l.fn.sheet in
    record {
      ahead : LeftToRead l.lengths (length l.fn.work) l.cells all l.i l.rest l.log l.sheet;
      untouched : l.i ≡ 0 → l.work ≡ l.fn.work;
    }
