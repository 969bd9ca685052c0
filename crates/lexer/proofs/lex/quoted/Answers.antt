-- `lexer::lex::quoted` meets its contract: one law for each answer.
use Rattle.std.proofs.Common.{rules, ◌∙◌}
use Rattle.lexer.proofs.Pieces.{quoted_none, quoted-at_feed, quoted-open, quoted_fits, quoted_closed}
use Rattle.lexer.proofs.lex.quoted.Goals.{in-Some+else-c-ne10, else-c-ne10-via-then-c-ne10+else-starts_with, else-c-ne10-via-else-c-ne10, in_default}
use Rattle.lexer.proofs.lex.quoted.Goals as goal

pub overflow_add-next : goal.overflow_add-next
overflow_add-next c = search (rules, quoted_fits)

pub returns-then-starts_with : goal.returns-then-starts_with
returns-then-starts_with c = c.token.ensures ∙ search (rules, quoted_closed)

pub returns : goal.returns
returns c = c.token-2.ensures ∙ elim c.match-glyph_at.branch [
  | in-Some+else-c-ne10 w ↦ elim w.else-c-ne10.branch [
    | else-c-ne10-via-then-c-ne10+else-starts_with v ↦ search (rules, quoted-open)
    | else-c-ne10-via-else-c-ne10 v ↦ search (rules, quoted-at_feed)
  ]
  | in_default w ↦ search (rules, quoted_none)
]
