use Rattle.std.proofs.Common.{rules}
use Rattle.parser.specs.Views.{is_write}
use Rattle.parser.specs.Lines.{one}
use Rattle.parser.proofs.Lists.{write_steps}
use Rattle.parser.proofs.row.Row.writes.Goals as goal

pub tuple-requires-clause-reads : goal.tuple-requires-clause-reads
tuple-requires-clause-reads c = (one is_write, record { steps = write_steps; reads = λ i r h. search rules })

pub returns : goal.returns
returns c = c.tuple.ensures (one is_write) (record { steps = write_steps; reads = λ i r h. search rules })
