-- Answers for `replay::wanted`: the definition makes the same tests.
use Rattle.std.proofs.Common.{◌≡◌, refl, ◌∙◌, get_or, rules}
use Rattle.replay.proofs.Laws.{wanted-before, wanted_stored, wanted-none}
use Rattle.replay.proofs.Stored.wanted.Goals as goal

pub returns-then-mark-eq-UNTOUCHED : goal.returns-then-mark-eq-UNTOUCHED
returns-then-mark-eq-UNTOUCHED c =
    let e : c.unwrap_or.result ≡ get_or c.args.self.now.before.now c.args.i 0 = search rules in
    e ∙ wanted-before _ _ _ _ _ c.if-mark-eq-UNTOUCHED.true

pub returns-then-i-mark : goal.returns-then-i-mark
returns-then-i-mark c = wanted_stored _ _ _ _ _ c.if-mark-eq-UNTOUCHED.false _ refl _ c.if-i-mark.true c.word_at.ensures

pub returns-else-i-mark : goal.returns-else-i-mark
returns-else-i-mark c = wanted-none _ _ _ _ _ c.if-mark-eq-UNTOUCHED.false _ refl c.if-i-mark.false
