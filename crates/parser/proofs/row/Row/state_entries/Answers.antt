use Rattle.std.proofs.Common.{rules}
use Rattle.parser.specs.Views.{is_state}
use Rattle.parser.specs.Lines.{one}
use Rattle.parser.proofs.Lists.{state_steps}
use Rattle.parser.proofs.row.Row.state_entries.Goals as goal

pub entries-requires-clause-reads : goal.entries-requires-clause-reads
entries-requires-clause-reads c = (one is_state, record { steps = state_steps; reads = λ i r h. search rules })

pub returns : goal.returns
returns c = c.entries.ensures (one is_state) (record { steps = state_steps; reads = λ i r h. search rules })
