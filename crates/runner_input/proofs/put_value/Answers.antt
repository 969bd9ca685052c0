-- What is left goes behind what was put: together they are the whole value.
use borrow.Author.Rules.{rules}
use Rattle.chars.proofs.Laws.{char_le, char_falls}
use Rattle.runner_input.proofs.Put.{puts_nothing, goes_start, goes_ends, goes_on, goes_over}
use Rattle.runner_input.proofs.put_value.Goals as goal

ruleset laws = (rules, char_le, char_falls, puts_nothing, goes_start, goes_ends, goes_on, goes_over)

pub loop-c-init : goal.loop-c-init
loop-c-init c = search laws

pub returns-then-ends : goal.returns-then-ends
returns-then-ends c = search laws

pub loop-c-smaller : goal.loop-c-smaller
loop-c-smaller c = search laws

pub loop-c-preserved : goal.loop-c-preserved
loop-c-preserved c = search laws

pub returns : goal.returns
returns c = search laws
