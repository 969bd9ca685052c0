-- `chars::long_at` meets its contract: the definition makes the same tests in the same order, by one law for each answer.
use Rattle.std.proofs.Common.{rules, refl, ◌∙◌}
use Rattle.chars.proofs.Front.{long_none, long_none_2, long_two, long_none_3, long_three, long_none_4, long_four}
use Rattle.chars.proofs.long_at.Goals as goal

pub returns-then-a-lt192 : goal.returns-then-a-lt192
returns-then-a-lt192 c = search (rules, long_none)

pub returns-in_err-b : goal.returns-in_err-b
returns-in_err-b c = c.from_residual.ensures ∙ long_none_2 _ _ _ c.requires.inside c.from-a.ensures c.if-a-lt192.false _ refl c.in_err-b.ensures.none

pub returns-then-a-lt224 : goal.returns-then-a-lt224
returns-then-a-lt224 c = long_two _ _ _ c.requires.inside c.from-a.ensures c.if-a-lt192.false _ c.in_ok-b.ensures.some.0 c.in_ok-b.ensures.some.1 _ _ c.if-a-lt224.true refl c.formed.ensures

pub returns-in_err-c : goal.returns-in_err-c
returns-in_err-c c = c.from_residual-in_err-c.ensures ∙ long_none_3 _ _ _ c.requires.inside c.from-a.ensures c.if-a-lt192.false _ c.in_ok-b.ensures.some.0 c.in_ok-b.ensures.some.1 c.if-a-lt224.false _ refl c.in_err-c.ensures.none

pub returns-then-a-lt240 : goal.returns-then-a-lt240
returns-then-a-lt240 c = long_three _ _ _ c.requires.inside c.from-a.ensures c.if-a-lt192.false _ c.in_ok-b.ensures.some.0 c.in_ok-b.ensures.some.1 c.if-a-lt224.false _ c.in_ok-c.ensures.some.0 c.in_ok-c.ensures.some.1 _ _ c.if-a-lt240.true refl c.formed-then-a-lt240.ensures

pub returns-in_err-d : goal.returns-in_err-d
returns-in_err-d c = c.from_residual-in_err-d.ensures ∙ long_none_4 _ _ _ c.requires.inside c.from-a.ensures c.if-a-lt192.false _ c.in_ok-b.ensures.some.0 c.in_ok-b.ensures.some.1 c.if-a-lt224.false _ c.in_ok-c.ensures.some.0 c.in_ok-c.ensures.some.1 c.if-a-lt240.false _ refl c.in_err-d.ensures.none

pub returns : goal.returns
returns c = long_four _ _ _ c.requires.inside c.from-a.ensures c.if-a-lt192.false _ c.in_ok-b.ensures.some.0 c.in_ok-b.ensures.some.1 c.if-a-lt224.false _ c.in_ok-c.ensures.some.0 c.in_ok-c.ensures.some.1 c.if-a-lt240.false _ c.in_ok-d.ensures.some.0 _ _ c.in_ok-d.ensures.some.1 refl c.formed-2.ensures
