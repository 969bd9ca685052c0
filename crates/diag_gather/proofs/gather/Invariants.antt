use Rattle.diag_search.specs.Pending.{pending}
use Rattle.diag_gather.proofs.Gathered.{Holds}
use Rattle.diag_gather.proofs.gather.Given as goal

abbrev pub invariant-loop-i : goal.invariant-loop-i
invariant-loop-i l =
    Holds l.text l.fn.work (pending l.text l.fn.work l.fn.search) l.fn.log l.errors (record { i = l.i; words = l.work; search = l.search; log = l.log })
