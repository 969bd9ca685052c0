-- The count is written, and then two parts of the row, which leave the words behind them as they were.
use Rattle.std.proofs.Common.{◌∙◌, ap₂, List, ℕ, arith}
use borrow.Rule.Slice.PartMut.{put_mid}
use Rattle.std.proofs.Common.{set}
use Rattle.hours.proofs.RowWords.{put_words}
use Rattle.hours.proofs.row.put.Goals as goal

pub returns : goal.returns
returns c =
    ap₂ (λ (a b : List ℕ). put_mid 33 32 (put_mid 1 32 (set c.args.row.now 0 c.args.hours.count) a) b) c.copy_from_slice.ensures.after c.copy_from_slice-2.ensures.after
    ∙ put_words c.args.row.now c.args.hours.opens c.args.hours.closes c.args.hours.count c.requires (omega arith) (omega arith)
