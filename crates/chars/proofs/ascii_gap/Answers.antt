-- `chars::ascii_gap` meets its contract: three ASCII bytes, or one and what `ascii_end` passes over.
use Rattle.std.proofs.Common.{rules}
use Rattle.chars.proofs.Blocks.{passes-three, passes-ascii, passes-more}
use Rattle.chars.proofs.ascii_gap.Goals as goal

pub returns-then-text-at-lt128-clause-passes : goal.returns-then-text-at-lt128-clause-passes
returns-then-text-at-lt128-clause-passes c = search (rules, passes-three)

pub returns-clause-passes : goal.returns-clause-passes
returns-clause-passes c = passes-more _ _ _ _ (search (rules, passes-ascii)) c.ascii_end.ensures
