-- `runner_tapes::blank_tapes` meets its contract: the cells in front are filled.
use Rattle.runner_tapes.proofs.Blank.{blank_is}
use Rattle.runner_tapes.proofs.blank_tapes.Goals as goal

pub returns : goal.returns
returns c = blank_is _ _ _ _ c.tape_cells-own.ensures _ (c.fill.ensures.after (λ _ e. e))
