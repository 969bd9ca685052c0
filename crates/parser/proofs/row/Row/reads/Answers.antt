use Rattle.std.proofs.Common.{rules}
use Rattle.parser.specs.Lines.{read_entry}
use Rattle.parser.proofs.Lists.{read_steps}
use Rattle.parser.proofs.row.Row.reads.Goals as goal

pub tuple-requires-clause-reads : goal.tuple-requires-clause-reads
tuple-requires-clause-reads c = (read_entry, record { steps = read_steps; reads = λ i r h. search rules })

pub returns : goal.returns
returns c = c.tuple.ensures read_entry (record { steps = read_steps; reads = λ i r h. search rules })
