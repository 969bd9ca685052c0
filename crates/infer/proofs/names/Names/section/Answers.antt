use Rattle.sheet.proofs.Puts.{puts_as}
use Rattle.infer.proofs.SectionLaws.{section_is}
use Rattle.infer.proofs.names.Names.section.Goals as goal

pub returns : goal.returns
returns c = puts_as (section_is _ _ _ _ _ c.finals.ensures) c.states.ensures.puts
