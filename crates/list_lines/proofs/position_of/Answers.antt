-- Line and column with a colon between them.
use Rattle.std.proofs.Common.{ap}
use Rattle.positions.specs.declared.Position.{Position}
use Rattle.list_lines.specs.Listing.{position}
use Rattle.emit.proofs.Chain.{◌▹◌}
use Rattle.list_lines.proofs.Chain.{said, counted}
use Rattle.list_lines.proofs.position_of.Goals as goal

pub returns : goal.returns
unfolding position
returns c =
    let at = c.line_column-p.ensures in
    counted (ap (λ (p : Position). p.line) at) c.decimal.ensures ▹ said c.bytes.ensures ▹ counted (ap (λ (p : Position). p.column) at) c.decimal-2.ensures
