-- When as many are stored as there were, all are.
use Rattle.std.proofs.Common.{arith}
use Rattle.diag_search.specs.Pending.{pending}
use Rattle.diag_gather.proofs.Gathered.{at_last_all}
use Rattle.diag_gather.proofs.gather.Goals as goal

pub returns : goal.returns
returns c =
    at_last_all c.args.text.now c.args.work.now (pending c.args.text.now c.args.work.now c.args.search) c.args.log.now c.args.errors
    (record { i = c.loop-i.i; words = c.loop-i.work; search = c.loop-i.search; log = c.loop-i.log }) c.loop-i.invariant (omega arith) (omega arith) (omega arith)
