-- The two sides of a rule, which functions write by themselves.
use Rattle.language.specs.Content.{RuleContent}
use Rattle.language.specs.Plain.{Piece, ◌⨾◌, say, commas, verbatim, symbol, direction}

-- the left side of a rule: from, and what is read
unfoldable pub rule_left : RuleContent → Piece
unfolding commas
rule_left r = say "δ(" ⨾ verbatim r.from ⨾ say ", (" ⨾ commas (λ a. symbol a.read) r.actions ⨾ say "))"

-- the right side: to, what is written, and the moves
unfoldable pub rule_right : RuleContent → Piece
unfolding commas
rule_right r = say " = (" ⨾ verbatim r.to ⨾ say ", (" ⨾ commas (λ a. symbol a.write) r.actions ⨾ say "), (" ⨾ commas (λ a. direction a.dir) r.actions ⨾ say "))"
