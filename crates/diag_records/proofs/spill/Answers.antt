-- `diag_records::spill` meets its contract: the whole records of the words begin with those that are copied,
-- and the words behind all are as they were.
use native.Mathlib.Omega.{arith}
use borrow.Author.Rules.{rules}
use Rattle.diag.proofs.Records.{length-whole}
use Rattle.diag_records.proofs.Copied.{spilled}
use Rattle.diag_records.proofs.spill.Goals as goal

pub copy_records-requires : goal.copy_records-requires
copy_records-requires c = let size = length-whole c.args.words.now in record { within = (omega arith, omega arith, omega arith) }

pub returns : goal.returns
returns c = search (rules, spilled)
