-- What ran so far, in front of what the entries that are left give, is what all give.
use Rattle.std.proofs.Common.{◌≡◌, ◌*◌, length, drop}
use Rattle.running.specs.Batch.{entry_texts}
use Rattle.runner.specs.Entry.{accepted}
use Rattle.runner_blanks.specs.Known.{BlankBeyond}
use Rattle.runner.proofs.AllRead.{LeftToRead}
use Rattle.runner.proofs.AllRan.{Ran}
use Rattle.runner.proofs.runs.runs.Given as goal

-- no entry that is left is refused, and log and sheet end as they began; the entries before them ran, and so much is known of the
-- cells; and at first work is untouched
abbrev pub invariant-loop-i : goal.invariant-loop-i
invariant-loop-i l = record {
  ahead : LeftToRead l.lengths (length l.fn.work) (length l.fn.cells) (accepted l.fn.log l.fn.sheet) l.i l.rest l.log l.sheet;
  ran : Ran l.allowance (entry_texts l.lengths l.fn.entries.texts.now) l.fn.cells l.fn.answers (2 * l.i)
      (entry_texts (drop l.i l.lengths) l.rest) l.left l.cells l.answers;
  known : BlankBeyond l.known l.cells;
  untouched : l.i ≡ 0 → l.work ≡ l.fn.work;
}
