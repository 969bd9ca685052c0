-- From here on as much is still to be noted as from the beginning on.
use Rattle.std.proofs.Common.{◌-◌, false, length}
use Rattle.infer_symbols.proofs.InputLaws.{Passed}
use Rattle.infer_symbols.proofs.input.seen_end.Given as goal

abbrev pub invariant-loop-c : goal.invariant-loop-c
invariant-loop-c l = Passed l.text false l.codes l.fn.at l.i

abbrev pub decreases-loop-c : goal.decreases-loop-c
decreases-loop-c l = length l.text - l.i
