-- `lexer::names::part_of` meets its contract: one law for what each return hands back, one for where it stands.
use Rattle.std.proofs.Common.{rules, refl}
use Rattle.lexer.proofs.Keywords.{part-inside, start-inside, part_outside, start_outside}
use Rattle.lexer.proofs.names.part_of.Goals as goal

pub returns-then-end-text-clause-bytes : goal.returns-then-end-text-clause-bytes
returns-then-end-text-clause-bytes c = search (rules, part-inside)

pub returns-then-end-text-clause-place : goal.returns-then-end-text-clause-place
returns-then-end-text-clause-place c = search (rules, start-inside)

pub returns-else-start-end-clause-bytes : goal.returns-else-start-end-clause-bytes
returns-else-start-end-clause-bytes c = part_outside _ _ _ c.else-start-end.either

pub returns-else-start-end-clause-place : goal.returns-else-start-end-clause-place
returns-else-start-end-clause-place c = (refl, start_outside _ _ _ _ c.else-start-end.either)
