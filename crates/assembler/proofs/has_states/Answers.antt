use Rattle.assembler.proofs.AssembledLaws.{states_are}
use Rattle.assembler.proofs.FirstLines.{asked_is}
use Rattle.assembler.proofs.has_states.Goals as goal

pub returns : goal.returns
returns c =
    states_are _ _ _
    (asked_is _ _ c.line.ensures c.is_some-states.ensures)
    (asked_is _ _ c.line-2.ensures c.is_some-start.ensures)
    (asked_is _ _ c.line-3.ensures c.is_some-finals.ensures)
