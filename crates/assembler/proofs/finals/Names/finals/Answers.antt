use mathlib.Core.Path.{refl}
use Rattle.diag.proofs.Appending.{appends_as}
use Rattle.assembler.proofs.FinalLaws.{finals_of_lem}
use Rattle.assembler.proofs.finals.Names.finals.Goals as goal

pub returns : goal.returns
returns c = appends_as _ _ _ _ c.final_errors.ensures (finals_of_lem c.args.self.now _ _ _ refl refl)
