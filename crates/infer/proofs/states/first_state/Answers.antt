use Rattle.infer.proofs.SectionLaws.{first_there, first-none}
use Rattle.std.proofs.Common.{rules}
use Rattle.infer.proofs.states.first_state.Goals as goal

pub returns-then-end-at : goal.returns-then-end-at
returns-then-end-at c = first-none _ _ _ c.if-end-at.true

pub returns : goal.returns
returns c = first_there _ _ _ _ _ c.if-end-at.false (search rules) (search rules)
