use mathlib.Core.Path.{refl}
use Rattle.diag.proofs.Appending.{appends_one}
use Rattle.diag.proofs.log.Log.append.Goals as goal

pub returns : goal.returns
returns c = appends_one _ _ _ refl c.append-self.ensures
