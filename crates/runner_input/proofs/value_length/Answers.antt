-- What was counted and the value of what is left are the whole.
use borrow.Author.Rules.{rules}
use Rattle.chars.proofs.Laws.{char_le, char_falls}
use Rattle.runner_input.proofs.Counts.{counts_start, counts_ends, counts_breaks, counts_fits}
use Rattle.runner_input.proofs.Counts.{counts_on, counts_over, counts_waits}
use Rattle.runner_input.proofs.value_length.Goals as goal

ruleset counts = (counts_start, counts_ends, counts_breaks, counts_fits, counts_on, counts_over, counts_waits)

ruleset laws = (rules, char_le, char_falls, counts)

pub loop-c-init : goal.loop-c-init
loop-c-init c = search laws

pub returns-then-ends : goal.returns-then-ends
returns-then-ends c = search laws

pub returns-then-c-eq10 : goal.returns-then-c-eq10
returns-then-c-eq10 c = search laws

pub overflow_add-total : goal.overflow_add-total
overflow_add-total c = search laws

pub loop-c-smaller : goal.loop-c-smaller
loop-c-smaller c = search laws

pub loop-c-preserved : goal.loop-c-preserved
loop-c-preserved c = search laws

pub returns-then-slash : goal.returns-then-slash
returns-then-slash c = search laws

pub returns-else-slash : goal.returns-else-slash
returns-else-slash c = search laws
