-- What reading leaves in 1,024 records is, as words, the outcome with a log of 5,120 words.
use Rattle.std.proofs.Common.{length, replicate, refl}
use Rattle.diag_records.specs.Unused.{unused}
use Rattle.listing.proofs.Words.{read_as_words}
use Rattle.listing.proofs.read.Goals as goal

pub returns : goal.returns
returns c =
    let read = c.read-answer in
    read_as_words c.args.text.now (length c.args.work.now) (replicate 1024 unused) c.args.sheet.now read.result read.new.log read.new.sheet refl read.ensures.0
    c.args.words.now c.spill.new.words c.requires c.spill.ensures
