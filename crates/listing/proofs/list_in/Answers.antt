-- The definition makes the same test, and lists what the reading call answers.
use Rattle.std.proofs.Common.{◌≡◌, ℕ, List, rules, arith}
use Rattle.reader_answer.specs.Answer.{read_in}
use Rattle.emit.specs.Output.{output, appended}
use Rattle.list_lines.specs.Listing.{listing, listed}
use Rattle.listing.proofs.Whole.{whole, at_front, too_long, text_listed}
use Rattle.listing.proofs.list_in.Goals.{then-text-gt-MAX_INPUT, else-text-gt-MAX_INPUT}
use Rattle.listing.proofs.list_in.Goals as goal

pub returns : goal.returns
returns c =
    let read = c.if-text-gt-MAX_INPUT in
    let text = c.args.text.now in
    let printed = whole _ _ (omega arith) c.list.ensures in
    let is_listed : listing text (read_in read.answer read.log read.sheet) ≡ listed text =
    elim read.branch [
      | then-text-gt-MAX_INPUT w ↦ too_long _ _ _ _ w.if-text-gt-MAX_INPUT.true w.answer-is
      | else-text-gt-MAX_INPUT w ↦ rw (w.answer-is, w.log-is, w.sheet-is) (text_listed _ _ _ _ w.if-text-gt-MAX_INPUT.false c.requires.work c.requires.sheet w.read-answer.ensures)
    ] in
    let front : (row : List ℕ) → row ≡ c.list.new.out.row.now → output row c.count.result ≡ appended (output c.args.out.now 0) (listed text) =
    λ row last. at_front _ _ _ c.new-listing.result c.list.new.out _ _ last c.count.ensures c.new-listing.ensures.empty printed is_listed in
    search (rules, front)
