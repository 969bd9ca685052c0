use Rattle.diag_search.specs.Pending.{left}
use Rattle.diag_search.proofs.Going.{Going}
use Rattle.diag_search.proofs.next.Given as goal

abbrev pub invariant-loop-diagnostic : goal.invariant-loop-diagnostic
invariant-loop-diagnostic l = Going l.text l.fn.work l.fn.s l.work l.search

abbrev pub decreases-loop-diagnostic : goal.decreases-loop-diagnostic
decreases-loop-diagnostic l = left l.search
