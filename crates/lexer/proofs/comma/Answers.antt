-- `lexer::comma` meets its contract: the words of a comma stand where one stands.
use Rattle.std.proofs.Common.{rules, refl, []}
use Rattle.lexer.proofs.Commas.{past_count, past_words, other-count, other_words_lem, here_count, here_words}
use Rattle.lexer.proofs.comma.Goals.{then-text-at-via-then-text-at, then-text-at-via-else-text-at+then-text-at-ne44}
use Rattle.lexer.proofs.comma.Goals as goal

pub returns-then-text-at : goal.returns-then-text-at
returns-then-text-at c = elim c.then-text-at.branch [
  | then-text-at-via-then-text-at w ↦ (search rules, search (rules, past_count), search (rules, past_words))
  | then-text-at-via-else-text-at+then-text-at-ne44 w ↦ (search rules, other-count _ _ [] 0 _ refl w.if-text-at-ne44.true, other_words_lem _ _ _ _ _ refl w.if-text-at-ne44.true)
]

pub returns : goal.returns
returns c = (search rules, search (rules, here_count), search (rules, here_words))
