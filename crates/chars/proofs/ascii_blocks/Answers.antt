-- `chars::ascii_blocks` meets its contract: the blocks before the first that is not ASCII are passed over.
use Rattle.std.proofs.Common.{◌≤◌, ◌+◌, ◌*◌, ◌<◌, rules, tests, sym, subst}
use Rattle.std.proofs.lemmas.Iterator.{IsFirst-from_position, YieldsList-from_slice}
use Rattle.chars.specs.Blocks.{ors}
use Rattle.chars.specs.Decoded.{Passes}
use Rattle.chars.proofs.Blocks.{passes-blocks}
use Rattle.chars.proofs.ascii_blocks.Goals as goal

pub returns : goal.returns
returns c =
    let p = IsFirst-from_position _ _ _ (λ b. 0x80 ≤ ors b 0) (λ b. ors b 0 < 0x80) c.position-other.ensures.ran (YieldsList-from_slice _ c.iter.ensures.rest) (λ x q k. search (rules, tests)) (λ x q k. search (rules, tests)) in
    subst (λ n. Passes c.args.text.now c.args.at (c.args.at + 8 * n)) (sym c.unwrap_or.ensures) (passes-blocks _ _ c.requires _ c.as_chunks.ensures.front c.as_chunks.ensures.front_len _ p)
