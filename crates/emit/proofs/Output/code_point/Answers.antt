-- The size of a code point says which bytes it has.
use borrow.Author.Rules.{rules}
use Rattle.emit.proofs.Points.{one_fits, two_fits, three_fits, one_form, two_form, three-form, four-form}
use Rattle.emit.proofs.Output.code_point.Goals as goal

ruleset laws = (rules, one_fits, two_fits, three_fits, one_form, two_form, three-form, four-form)

pub overflow_cast-c : goal.overflow_cast-c
overflow_cast-c c = search laws

pub overflow_cast-c-in-2 : goal.overflow_cast-c-in-2
overflow_cast-c-in-2 c = search laws

pub overflow_cast-c-in-3 : goal.overflow_cast-c-in-3
overflow_cast-c-in-3 c = search laws

pub returns-in-1 : goal.returns-in-1
returns-in-1 c = search laws

pub returns-in-2 : goal.returns-in-2
returns-in-2 c = search laws

pub returns-in-3 : goal.returns-in-3
returns-in-3 c = search laws

pub returns-in_default : goal.returns-in_default
returns-in_default c = search laws
