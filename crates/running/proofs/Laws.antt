-- The laws of a run and of a batch, by the modules that prove them.
-- A step by cases, and a run by its first step.
pub use Rattle.running.proofs.Runs.{step_rests, step_spent, step_leaves, step_goes, step_left, run_stops, run_steps}
-- A run: what holds where it stops and before a step holds of it; never more steps than are left; with a + b left it is the run
-- with a and then with b; a stop other than spent is the same with more left; halted and stuck need nothing left; with fewer left
-- than it did it is spent.
pub use Rattle.running.proofs.Runs.{run_elim, run_used, run_again, run_more, run_fixed, run_short}
-- Its cells: as many as before; those left over, and those farther from position 0 than its steps, as they were.
pub use Rattle.running.proofs.Cells.{run-length, run_left_over, run_near}
-- From the start of a machine that is not refused: the same of its cells; and it knows of the cells lent only how many they are.
pub use Rattle.running.proofs.Starts.{fit, run_front, run_on_front, run_on-length, run_on_left_over, run_on_near, run_on_forgets}
-- Without a start it is stuck at once.
pub use Rattle.running.proofs.NoStart.{no_start}
-- A reading: lengths are kept; one that gives a machine is the same on any log and sheet of the same lengths.
pub use Rattle.running.proofs.Readings.{read_keeps, read_again}
-- A batch: an answer for each entry; no counter above the allowance; every row as long as it was; what runs was read and not
-- refused; cells and answers untouched if it did not run.
pub use Rattle.running.proofs.Batches.{run_on_used, runs_answers, runs_cells, runs_within, readings_keep, readings_accepted}
pub use Rattle.running.proofs.Batches.{batch_keeps, batch_untouched}
