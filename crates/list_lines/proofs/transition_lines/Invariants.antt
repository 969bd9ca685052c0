use Rattle.std.proofs.Common.{◌-◌}
use Rattle.language.specs.Plain.{each}
use Rattle.language.specs.Agreement.{records}
use Rattle.list_lines.specs.Listing.{transition, transition_lines}
use Rattle.list_lines.proofs.Chain.{Goes}
use Rattle.list_lines.proofs.transition_lines.Given as goal

-- the transitions that are left
abbrev pub invariant-loop-i : goal.invariant-loop-i
invariant-loop-i l = Goes (each (transition l.text) (records (l.n - l.i) l.rest)) l.out (transition_lines l.text l.n l.rules) l.fn.out
