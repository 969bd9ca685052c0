-- Each stop has its word.
use Rattle.list_lines.proofs.Chain.{said}
use Rattle.run_lines.proofs.stop_word.Goals as goal

pub returns-in-Halted : goal.returns-in-Halted
returns-in-Halted c = rw c.in-Halted.is (said c.bytes.ensures)

pub returns-in-Stuck : goal.returns-in-Stuck
returns-in-Stuck c = rw c.in-Stuck.is (said c.bytes-in-Stuck.ensures)

pub returns-in-Spent : goal.returns-in-Spent
returns-in-Spent c = rw c.in-Spent.is (said c.bytes-in-Spent.ensures)

pub returns-in-Edge : goal.returns-in-Edge
returns-in-Edge c = rw c.in-Edge.is (said c.bytes-in-Edge.ensures)
