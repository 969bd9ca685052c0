-- What is added to the windows that the row lists is put back; what is refused leaves the row.
use Rattle.std.proofs.Common.{ℕ, List, sym, ap, ◌∙◌, arith}
use Rattle.hours.specs.declared.Hours.{Hours}
use Rattle.hours.specs.Hours.{added}
use Rattle.hours.proofs.RowWords.{row_added-short, row_added-parts, given-taken, given-refused}
use Rattle.hours.proofs.row.pevzoncs_hours_add.Goals as goal

pub returns-then-row-lt-ROW_WORDS : goal.returns-then-row-lt-ROW_WORDS
returns-then-row-lt-ROW_WORDS c =
    ap (λ (n : ℕ). (n, c.args.row.now)) c.number.ensures
    ∙ row_added-short c.args.row.now c.args.opening c.args.closing (omega arith)

pub returns-in-Ok : goal.returns-in-Ok
returns-in-Ok c =
    row_added-parts c.args.row.now c.args.opening c.args.closing c.add-added.result (0, c.put.new.row) (omega arith)
    (c.add-added.ensures ∙ ap (λ (h : Hours). added h c.args.opening c.args.closing) c.hours_of.ensures)
    (ap (λ (l : List ℕ). (0, l)) c.put.ensures ∙ given-taken c.add-added.result c.args.row.now c.in-Ok.is)

pub returns-in-Err : goal.returns-in-Err
returns-in-Err c =
    row_added-parts c.args.row.now c.args.opening c.args.closing c.add-added.result (c.number-in-Err.result, c.args.row.now) (omega arith)
    (c.add-added.ensures ∙ ap (λ (h : Hours). added h c.args.opening c.args.closing) c.hours_of.ensures)
    (ap (λ (n : ℕ). (n, c.args.row.now)) c.number-in-Err.ensures ∙ given-refused c.add-added.result c.args.row.now c.in-Err.refusal c.in-Err.is)
