-- `chars::ascii_two` meets its contract: two bytes whose or is below 80 are passed over.
use Rattle.std.proofs.Common.{rules}
use Rattle.chars.proofs.Blocks.{passes-two}
use Rattle.chars.proofs.ascii_two.Goals as goal

pub returns-then-text-at-lt128 : goal.returns-then-text-at-lt128
returns-then-text-at-lt128 c = search (rules, passes-two)
