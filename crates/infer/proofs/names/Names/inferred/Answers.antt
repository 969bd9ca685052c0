use Rattle.infer.specs.States.{inferred}
use Rattle.infer.proofs.NameLaws.{◌▸◌}
use Rattle.infer.proofs.names.Names.inferred.Goals as goal

pub returns : goal.returns
unfolding inferred
returns c = c.start_name.ensures ▸ (c.mentions.ensures ▸ c.names_in.ensures)
