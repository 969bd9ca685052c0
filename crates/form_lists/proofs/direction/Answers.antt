-- The letter is its own byte.
use Rattle.sheet_view.specs.Directions.{dir_in}
use Rattle.form_lists.proofs.Lists.{moved}
use Rattle.form_lists.proofs.direction.Goals as goal

pub returns : goal.returns
returns c = moved (dir_in c.args.d) c.letter.ensures c.byte.ensures
