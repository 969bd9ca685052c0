-- The pieces of the head's lines stand one after the other.
use Rattle.form.proofs.HeadWords.{head-written}
use Rattle.form.proofs.Machine.head_lines.Goals as goal

pub returns : goal.returns
returns c =
    head-written _ _ _ _ _ _ _ _ _ _ _ _ _ _ c.bytes.ensures c.string.ensures c.bytes-2.ensures c.kind.ensures c.bytes-3.ensures c.string-2.ensures c.bytes-4.ensures
    c.decoder.ensures c.bytes-5.ensures c.number.ensures c.bytes-6.ensures
