-- The lines are appended one after the other, each from its section of the sheet.
use Rattle.std.proofs.Common.{ap, ap₂}
use Rattle.list_lines.specs.Listing.{symbol_lines, transition_lines, machine_lines}
use Rattle.emit.proofs.Chain.{◌▹◌}
use Rattle.list_lines.proofs.Chain.{said, same}
use Rattle.list_lines.proofs.machine_lines.Goals as goal

pub returns : goal.returns
unfolding machine_lines
returns c =
    let n = c.args.head.now.counts in
    said c.bytes.ensures ▹ c.state_lines.ensures ▹ same (ap₂ (λ s g. symbol_lines n.sigma s n.gamma g) c.sigma.ensures c.gamma.ensures) c.symbol_lines.ensures
    ▹ same (ap (transition_lines c.args.text.now n.rules) c.rules.ensures) c.transition_lines.ensures
