-- The front is what is printed, for it had room.
use Rattle.std.proofs.Common.{arith, length-take}
use Rattle.run_listing.proofs.Whole.{counts, in_full}
use Rattle.run_listing.proofs.print.Goals as goal

pub slice_bounds-row-end : goal.slice_bounds-row-end
slice_bounds-row-end g c =
    omega (arith, counts _ _ _ _ _ _ c.filled-row.ensures c.listed-n.ensures, length-take c.listed-n.result c.listed-n.new.row)

pub slice_bounds-write_all-end : goal.slice_bounds-write_all-end
slice_bounds-write_all-end g c = counts _ _ _ _ _ _ c.filled-row.ensures c.listed-n.ensures

pub returns : goal.returns
returns g c = rw (in_full _ _ _ _ _ _ c.filled-row.ensures c.listed-n.ensures) at c.write_all.ensures.bytes
