-- The log is cleared; where there are diagnostics they are written over its front, and sorted.
use Rattle.std.proofs.Common.{length, subst, ◌∙◌, IfSome}
use Rattle.diag_search.specs.Pending.{pending}
use Rattle.reader_steps.specs.Opens.{Reports}
use Rattle.reader_records.proofs.Lists.{behind-sort}
use Rattle.reader_records.proofs.report.Goals as goal

pub returns-in-Some : goal.returns-in-Some
returns-in-Some c =
    let n = length c.args.log.now in
    let s = c.in-Some.search in
    let asked : Reports c.args.text.now c.args.work.now n s = subst (λ o. IfSome o (Reports c.args.text.now c.args.work.now n)) c.in-Some.is c.requires in
    rw (c.in-Some.is) (c.sort.ensures ∙ behind-sort (pending c.args.text.now c.args.work.now s) s.errors n asked.all c.clear.new.log c.gather.new.log c.clear.ensures c.gather.ensures)
