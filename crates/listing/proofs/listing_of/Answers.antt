-- The front is the listing, for it had room.
use Rattle.listing.proofs.Whole.{counts, in_full}
use Rattle.listing.proofs.listing_of.Goals as goal

pub slice_bounds-result-end : goal.slice_bounds-result-end
slice_bounds-result-end c = counts _ _ _ _ c.requires c.list_text-n.ensures

pub returns : goal.returns
returns c = in_full _ _ _ _ c.requires c.list_text-n.ensures
