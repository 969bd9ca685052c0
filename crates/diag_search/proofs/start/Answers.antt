-- Assembly gives the table of first declarations, and by it the search finds the diagnostics of the row.
use Rattle.diag_search.proofs.Beginnings.{started}
use Rattle.diag_search.proofs.start.Goals as goal

pub returns : goal.returns
returns c = started _ _ _ _ _ _ _ c.requires c.assemble-a.ensures
