-- Answers for `replay::left`: `all` tells of each word and its place.
use Rattle.std.proofs.Common.{◌≡◌, ◌∙◌, rules, tests}
use Rattle.std.proofs.lemmas.Iterator.{cases_from_all, YieldsList-from_slice}
use Rattle.std.proofs.lemmas.Iterator.Consumers.{YieldsList-from_enumerate}
use Rattle.replay.specs.Case.{wanted}
use Rattle.replay.proofs.Laws.{left_short, left_told}
use borrow.Author.Tests.{lt-leb}
use Rattle.replay.proofs.Stored.left.Goals as goal

pub returns-then-marked-row : goal.returns-then-marked-row
returns-then-marked-row c =
    let w = wanted c.args.self.now.before.now c.args.self.now.case.now c.args.from c.args.mark in
    left_told _ _ _ _ _ _ c.marked.ensures.0 c.if-marked-row.true _
    (cases_from_all _ _ _ (λ p. p.1 ≡ w p.0) (λ p. p.1 ≡ w p.0 → ⊥) c.all.ensures.ran (YieldsList-from_enumerate (YieldsList-from_slice c.args.row.now (cc)) (cc)) (λ x q k. search (rules, tests)) (λ x q k. search (rules, tests)))

pub returns-else-marked-row : goal.returns-else-marked-row
returns-else-marked-row c = lt-leb _ _ c.if-marked-row.false ∙ left_short _ _ _ _ _ _ c.marked.ensures.0 c.if-marked-row.false
