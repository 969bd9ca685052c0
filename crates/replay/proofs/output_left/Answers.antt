-- Answers for `replay::output_left`: `all` tells of each byte behind those that are stored.
use Rattle.std.proofs.Common.{◌≡◌, ◌∙◌, rules, tests}
use Rattle.std.proofs.lemmas.Iterator.{cases_from_all, YieldsList-from_slice}
use Rattle.replay.proofs.Laws.{output_told, output_other}
use Rattle.replay.proofs.output_left.Goals as goal

pub returns-then-starts_with : goal.returns-then-starts_with
returns-then-starts_with c =
    output_told _ _ _ c.starts_with.ensures.value c.if-starts_with.true (search rules) _
    (cases_from_all _ _ _ (λ b. b ≡ 165) (λ b. b ≡ 165 → ⊥) c.all.ensures.ran (YieldsList-from_slice _ c.iter.ensures.rest) (λ x q k. search (rules, tests)) (λ x q k. search (rules, tests)))

pub returns-else-starts_with : goal.returns-else-starts_with
returns-else-starts_with c = c.if-starts_with.false ∙ output_other _ _ _ c.starts_with.ensures.value c.if-starts_with.false
