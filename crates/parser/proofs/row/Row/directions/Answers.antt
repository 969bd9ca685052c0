use Rattle.std.proofs.Common.{rules}
use Rattle.parser.specs.Lines.{direction}
use Rattle.parser.proofs.Lists.{direction_steps}
use Rattle.parser.proofs.row.Row.directions.Goals as goal

pub tuple-requires-clause-reads : goal.tuple-requires-clause-reads
tuple-requires-clause-reads c = (direction, record { steps = direction_steps; reads = λ i r h. search rules })

pub returns : goal.returns
returns c = c.tuple.ensures direction (record { steps = direction_steps; reads = λ i r h. search rules })
