-- `diag_report::report` meets its contract: a log that has too few records is cleared,
-- another cleared behind its records and sorted.
use Prim.Native.Nat.{◌*◌, ◌≤◌}
use native.Mathlib.Omega.{arith}
use borrow.Author.Rules.{rules}
use lib.ListN.{length}
use Rattle.diag.proofs.Words.{cleared_from}
use Rattle.diag_report.proofs.Reports.{reply_refused, reply_given, cleared_after, sorted_after}
use Rattle.diag_report.proofs.report.Goals as goal

pub returns-then-log-errors : goal.returns-then-log-errors
returns-then-log-errors c =
    let zeros = c.fill.ensures.after (λ y e. e) in
    (search (rules, reply_refused), λ row ds e. search (rules, cleared_after))

pub returns : goal.returns
returns c =
    let zeros = c.fill-2.ensures.after (λ y e. e) in
    let within : 5 * c.args.errors ≤ length c.args.log.now = omega arith in
    (search (rules, reply_given), λ row ds e. search (rules, sorted_after, cleared_from))
