-- `diag_records::sort` meets its contract: `words` has a whole record for each.
use native.Mathlib.Omega.{arith}
use Rattle.diag.proofs.Records.{length-whole}
use Rattle.diag_records.proofs.sort.Goals as goal

pub sort_records-requires : goal.sort_records-requires
sort_records-requires c = let size = length-whole c.args.words.now in (omega arith, omega arith)
