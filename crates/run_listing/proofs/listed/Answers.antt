-- The definition makes the same test, and what is printed stands at the front of the row.
use Rattle.std.proofs.Common.{◌≡◌, List, ℕ, rules, arith, length-take}
use Rattle.emit.specs.Output.{output, appended}
use Rattle.run_lines.specs.Printed.{printed}
use Rattle.run_listing.proofs.Whole.{at_front, too_long, not_long}
use Rattle.run_listing.proofs.listed.Goals as goal

pub returns-then-text-gt-MAX_TEXT : goal.returns-then-text-gt-MAX_TEXT
returns-then-text-gt-MAX_TEXT g c =
    let l = c.args.limits in
    let front : (row : List ℕ) → row ≡ c.refused-then-text-gt-MAX_TEXT.new.out.row.now
    → output row c.count.result ≡ appended (output c.args.row.now 0) (printed c.args.text.now l.steps l.cells) =
    λ row last. at_front _ _ _ c.new-out.result c.refused-then-text-gt-MAX_TEXT.new.out _ _ (omega arith) c.new-out.ensures.empty c.refused-then-text-gt-MAX_TEXT.ensures last c.count.ensures
    (too_long c.args.text.now l.steps l.cells c.if-text-gt-MAX_TEXT.true) in
    search (rules, front)

pub returns : goal.returns
returns g c =
    let l = c.args.limits in
    let front : (row : List ℕ) → row ≡ c.text_lines.new.out.row.now
    → output row c.count-2.result ≡ appended (output c.args.row.now 0) (printed c.args.text.now l.steps l.cells) =
    λ row last. at_front _ _ _ c.new-out.result c.text_lines.new.out _ _ (omega arith) c.new-out.ensures.empty c.text_lines.ensures last c.count-2.ensures
    (not_long c.args.text.now l.steps l.cells _ (omega (arith, c.fill.ensures.len, c.filled-all.ensures, c.min.ensures, length-take c.min.result c.filled-all.result)) c.if-text-gt-MAX_TEXT.false) in
    search (rules, front)
