-- `chars::plain_short` meets its contract: what `plain_two` takes and the range of three bytes lie within the set.
use Rattle.std.proofs.Common.{refl, sym}
use Rattle.chars.proofs.Short.{plain_is_two, short_char, short_in, next_in}
use Rattle.chars.proofs.plain_short.Goals as goal

pub short_at-requires-clause-takes : goal.short_at-requires-clause-takes
short_at-requires-clause-takes c = λ a b e. plain_is_two a b (sym e)

pub returns : goal.returns
returns c = next_in _ _ _ _ (short_char _ _ _ _ _ _ _ c.in_ok-next.ensures.some) (short_in _ _ _ _ _ _ _ c.in_ok-next.ensures.some (λ a b e. sym e) refl refl)
