-- `chars::short_at` meets its contract: the bytes of the slice are those at the place, and tell the character.
use Rattle.std.proofs.Common.{arith, refl, sym, ◌∙◌}
use Rattle.chars.proofs.Short.{short_two, short_found, two_range, tail-range, three_short, three_head, three_tail, three_out}
use Rattle.chars.proofs.short_at.Goals.{then-a-via-then-a, then-a-via-else-a+then-not-is_tail}
use Rattle.chars.proofs.short_at.Goals as goal

pub overflow_sub-a : goal.overflow_sub-a
overflow_sub-a g c = omega (arith, two_range _ _ (c.requires.takes _ _ c.if-two.ensures))

pub overflow_sub-b : goal.overflow_sub-b
overflow_sub-b g c = omega (arith, two_range _ _ (c.requires.takes _ _ c.if-two.ensures))

pub overflow_sub-c : goal.overflow_sub-c
overflow_sub-c g c = omega (arith, tail-range _ (sym c.is_tail.ensures ∙ c.if-not-is_tail.false))

pub returns-then-two-clause-some : goal.returns-then-two-clause-some
returns-then-two-clause-some g c = short_two _ _ c.requires.inside c.in-len3-up.len_at_least _ _ _ _ _ _ refl refl refl (c.requires.takes _ _ c.if-two.ensures) c.if-two.ensures _ _ c.from.ensures c.from-then-two.ensures

pub returns-clause-some : goal.returns-clause-some
returns-clause-some g c = short_found _ _ c.requires.inside c.in-len3-up.len_at_least _ _ _ _ _ _ refl refl refl c.if-a.false (sym c.is_tail.ensures ∙ c.if-not-is_tail.false) _ _ c.from-2.ensures c.from-3.ensures c.requires.from c.requires.below _ _ c.contains.ensures.value c.then_some.ensures

pub returns-in_default-clause-none_of_three : goal.returns-in_default-clause-none_of_three
returns-in_default-clause-none_of_three g c = three_short _ _ c.requires.inside _ _ c.requires.from c.requires.below c.in_default.len_below

pub returns-then-a-clause-none_of_three : goal.returns-then-a-clause-none_of_three
returns-then-a-clause-none_of_three g c =
    elim c.then-a.branch [
      | then-a-via-then-a w ↦ three_head _ _ c.requires.inside _ _ c.requires.from c.requires.below _ _ _ refl refl refl w.if-a.true
      | then-a-via-else-a+then-not-is_tail w ↦ three_tail _ _ c.requires.inside _ _ c.requires.from c.requires.below _ _ _ refl refl refl (sym w.is_tail.ensures ∙ w.if-not-is_tail.true)
    ]

pub returns-clause-none_of_three : goal.returns-clause-none_of_three
returns-clause-none_of_three g c = three_out _ _ c.requires.inside _ _ c.requires.from c.requires.below _ _ _ refl refl refl _ _ c.from-2.ensures c.from-3.ensures _ _ c.contains.ensures.value c.then_some.ensures
