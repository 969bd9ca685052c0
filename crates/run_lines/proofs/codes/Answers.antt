-- The codes of the cells that are left go behind those that are printed.
use Rattle.emit.proofs.Chain.{◌▹◌}
use Rattle.list_lines.proofs.Chain.{said, counted}
use Rattle.run_lines.specs.Lines.{code}
use Rattle.run_lines.proofs.Lines.{code_on, code_end}
use Rattle.run_lines.proofs.codes.Goals as goal

pub loop-c-preserved : goal.loop-c-preserved
unfolding code
loop-c-preserved c = code_on _ _ c.loop-c.invariant c.loop-c-test.true (said c.bytes.ensures ▹ counted c.into.ensures c.decimal.ensures)

pub returns : goal.returns
returns c = code_end _ _ c.loop-c.invariant c.loop-c-test.false
