use Rattle.std.proofs.Common.{rules, ◌∙◌}
use Rattle.parser.specs.Views.{is_symbol}
use Rattle.parser.specs.Lines.{one}
use Rattle.parser.proofs.Lists.{symbol_steps}
use Rattle.parser.proofs.Pairs.{pairs-entries}
use Rattle.parser.proofs.row.Row.symbol_entries.Goals as goal

pub entries-requires-clause-reads : goal.entries-requires-clause-reads
entries-requires-clause-reads c = (one is_symbol, record { steps = symbol_steps; reads = λ i r h. search rules })

pub returns : goal.returns
returns c = c.entries.ensures (one is_symbol) (record { steps = symbol_steps; reads = λ i r h. search rules }) ∙ pairs-entries c.args.self.words.now c.args.at c.pairs-m.result c.pairs-m.ensures.0
