-- A row that is too short lists no window; another has the count, the opening minutes and the closing minutes at their places.
use Rattle.std.proofs.Common.{◌∙◌, arith}
use Rattle.hours.proofs.RowWords.{hours_of-short, hours_of-parts}
use Rattle.hours.proofs.row.hours_of.Goals as goal

pub returns-then-row-lt-ROW_WORDS : goal.returns-then-row-lt-ROW_WORDS
returns-then-row-lt-ROW_WORDS c = c.new-hours.ensures ∙ hours_of-short c.args.row.now (omega arith)

pub returns : goal.returns
returns c =
    hours_of-parts c.args.row.now c.copy_from_slice.new.self c.copy_from_slice-2.new.self (omega arith) c.copy_from_slice.ensures.after c.copy_from_slice-2.ensures.after
