-- `chars::above_end` meets its contract: a character that its first bytes tell stands
-- before the next place, and none at the last.
use Rattle.std.proofs.Common.{rules, arith, refl, sym, ◌∙◌}
use Rattle.chars.proofs.Short.{short_char, short_is, above_on, above_past, above_last, above_left}
use Rattle.chars.proofs.Laws.{char_le, char_falls}
use Rattle.chars.proofs.above_end.Goals as goal

pub returns-then-text-at : goal.returns-then-text-at
returns-then-text-at c = omega (arith, above_past c.args.text.now c.args.at (omega arith))

pub loop-next-init : goal.loop-next-init
loop-next-init c = (search rules, refl)

pub loop-next-smaller : goal.loop-next-smaller
loop-next-smaller c = char_falls _ _ _ (short_char _ _ _ _ _ _ _ c.in-Some.ensures.some) _ _ refl

pub loop-next-preserved : goal.loop-next-preserved
loop-next-preserved c =
    let s = short_char _ _ _ _ _ _ _ c.in-Some.ensures.some in
    (char_le _ _ _ s _ _ refl, above_on _ _ _ _ s (short_is _ _ _ _ _ _ _ c.in-Some.ensures.some (λ a b e. sym e) (omega arith) (omega arith)) ∙ c.loop-next.invariant.1)

pub returns-in-len2 : goal.returns-in-len2
returns-in-len2 c = above_last _ _ c.loop-next.invariant.0 c.in-len2.len_at_least c.in-len2.len_below (sym c.is_two.ensures ∙ c.if-is_two.true) ∙ c.loop-next.invariant.1

pub returns-in_default-2 : goal.returns-in_default-2
returns-in_default-2 c =
    above_left _ _ c.loop-next.invariant.0 c.in_default.ensures.none_of_two c.in_default.ensures.none_of_three (λ l u. absurd (omega (arith, c.in_default-2.len_below)))
    ∙ c.loop-next.invariant.1

pub returns-in_default-2-2 : goal.returns-in_default-2-2
returns-in_default-2-2 c =
    above_left _ _ c.loop-next.invariant.0 c.in_default.ensures.none_of_two c.in_default.ensures.none_of_three (λ l u. sym c.if-is_two.false ∙ c.is_two.ensures)
    ∙ c.loop-next.invariant.1

pub returns-in_default-2-3 : goal.returns-in_default-2-3
returns-in_default-2-3 c =
    above_left _ _ c.loop-next.invariant.0 c.in_default.ensures.none_of_two c.in_default.ensures.none_of_three (λ l u. absurd (omega (arith, c.in_default-2.len_at_least)))
    ∙ c.loop-next.invariant.1
