-- `lexer::lex::piece_at` meets its contract: a quote, a character, or none.
use Rattle.std.proofs.Common.{rules}
use Rattle.lexer.proofs.Pieces.{quote_in, piece-quoted, piece_char, piece_none}
use Rattle.chars.proofs.Laws.{char_next, char_decode, char_le}
use Rattle.lexer.proofs.lex.piece_at.Goals as goal

pub quoted-requires : goal.quoted-requires
quoted-requires c = search (rules, quote_in)

pub returns-then-starts_with : goal.returns-then-starts_with
returns-then-starts_with c = search (rules, piece-quoted)

pub invariant_of-piece : goal.invariant_of-piece
invariant_of-piece c = record {
  behind = char_next _ _ _ c.char_at.ensures.found _ _ c.in-Some.is;
  read = char_decode _ _ _ c.char_at.ensures.found _ _ c.in-Some.is;
  inside = char_le _ _ _ c.char_at.ensures.found _ _ c.in-Some.is;
}

pub returns-in-Some : goal.returns-in-Some
returns-in-Some c = search (rules, piece_char)

pub returns-in-None : goal.returns-in-None
returns-in-None c = search (rules, piece_none)
