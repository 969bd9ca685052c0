-- `chars::ascii_end` meets its contract: behind the blocks, the ASCII bytes that stand first are passed over.
use Rattle.chars.proofs.Blocks.{passes-prefix, passes-more}
use Rattle.chars.proofs.ascii_end.Goals as goal

pub returns : goal.returns
returns c = passes-more _ _ _ _ c.ascii_blocks-i.ensures (passes-prefix _ _ _ c.ascii_blocks-i.ensures.inside c.ascii_len.ensures.first)
