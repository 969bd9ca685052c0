-- `Output::bytes` puts the part into the row.
use Rattle.std.proofs.Common.{refl, rules}
use Rattle.emit.proofs.Output.bytes.Goals as goal

pub returns : goal.returns
returns c = record { appends = c.put-self.ensures; same_row = search rules; short = search rules }
