-- The tokens of the text are assembled.
use Rattle.reader.proofs.Calls.{short, tokenize_room, tokenized}
use Rattle.reader_steps.proofs.Begins.{begun}
use Rattle.reader_steps.proofs.enter.Goals as goal

pub tokenize-count-requires : goal.tokenize-count-requires
tokenize-count-requires c = (short _ _ c.requires, tokenize_room _ _ c.requires)

pub start-requires : goal.start-requires
start-requires c = tokenized _ _ c.requires _ _ c.tokenize-count.ensures.0 c.tokenize-count.ensures.1

pub returns : goal.returns
returns c = begun _ _ c.requires _ _ c.tokenize-count.ensures.0 c.tokenize-count.ensures.1 _ _ c.start.ensures
