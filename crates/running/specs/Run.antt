-- Paper 02, request 2: a step and a run, by what is left of the allowance. The stops are halted, stuck, spent and edge, tested in
-- that order.
use Rattle.std.specs.Prelude.{ℕ, zero, suc, true, false, List, length, Some, None, find, Result, Ok, Err}
use Rattle.language.specs.Content.{RuleContent, Content}
use Rattle.running.specs.Tape.{half, Configuration, initial}
use Rattle.running.specs.Step.{is_final, scanned, matches, moved_by, applied}

-- why a run stops: its state is final, no rule matches, the allowance is used, a head would leave its tape
pub data Stop : Type 0 where
  halted stuck spent edge : Stop

-- what is due, whatever is left: a stop, or the first rule that matches
pub data Due : Type 0 where
  stops : Stop → Due
  applies : RuleContent → Due

-- what is due in a state over some symbols
unfoldable pub due_in : Content → List ℕ → List ℕ → Due
unfolding is_final matches
due_in m q symbols = elim (is_final m.states q) [
  | true ↦ stops halted
  | false ↦ elim (find (matches q symbols) m.rules) [ None ↦ stops stuck | Some r ↦ applies r ]
]

-- what is due of a machine on tapes of 2 times h cells
unfoldable pub due : Content → ℕ → Configuration → Due
unfolding due_in scanned
due m h c = due_in m c.state (scanned h 0 c.heads c.cells)

-- one step with so many left: where the machine stands behind it, or its stop: halted, stuck, spent, edge, tested in that order
unfoldable pub step_from : Content → ℕ → ℕ → Configuration → Result Configuration Stop
unfolding due moved_by applied
step_from m h left c = elim (due m h c) [
  | stops s ↦ Err s
  | applies r ↦ elim left [
    | zero ↦ Err spent
    | suc n ↦ elim (moved_by h r c) [ None ↦ Err edge | Some heads ↦ Ok (applied h r heads c) ]
  ]
]

-- how a run ended: its stop, its own steps, and where the machine stands
pub record Ended : Type 0 where
  pub stop : Stop
  pub steps : ℕ
  pub last : Configuration

-- a run that stops at once
abbrev pub stopped : Stop → Configuration → Ended
stopped s c = record { stop = s; steps = 0; last = c }

-- a run behind one more step
abbrev pub counted : Ended → Ended
counted e = record { stop = e.stop; steps = suc e.steps; last = e.last }

-- a run with so many steps left: one step after the other until it stops; with none left no step is done
unfoldable pub run_from : Content → ℕ → ℕ → Configuration → Ended
unfolding step_from
run_from m h zero c = elim (step_from m h zero c) [ Err s ↦ stopped s c | Ok d ↦ stopped spent c ]
run_from m h (suc n) c = elim (step_from m h (suc n) c) [ Err s ↦ stopped s c | Ok d ↦ counted (run_from m h n d) ]

-- a machine's run from its start on all cells lent
unfoldable pub run_on : Content → ℕ → List ℕ → Ended
unfolding half initial run_from
run_on m left cells = run_from m (half (length cells) m.tapes) left (initial m cells)
