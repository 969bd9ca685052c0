-- The numbers of the place with a space between them.
use Rattle.list_lines.specs.Listing.{place}
use Rattle.emit.proofs.Chain.{◌▹◌}
use Rattle.list_lines.proofs.Chain.{said, counted}
use Rattle.list_lines.proofs.place.Goals as goal

pub returns : goal.returns
unfolding place
returns c = counted c.into.ensures c.decimal.ensures ▹ said c.bytes.ensures ▹ counted c.into-2.ensures c.decimal-2.ensures
