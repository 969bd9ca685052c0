-- The letter is the move.
use Rattle.sheet_view.specs.Directions.{dir_in}
use Rattle.list_lines.proofs.Lists.{moved}
use Rattle.list_lines.proofs.direction.Goals as goal

pub returns : goal.returns
returns c = moved (dir_in c.args.d) c.letter.ensures c.byte.ensures
