-- `lexer::lex::Head::piece` meets its contract: one law for each mark.
use Rattle.std.proofs.Common.{rules, arith}
use Rattle.chars.proofs.Encoding.{size-range}
use Rattle.lexer.proofs.Pieces.{from_string, from_quoted, from_slash}
use Rattle.lexer.proofs.lex.Head.piece.Goals as goal

pub quoted-requires : goal.quoted-requires
quoted-requires c = let h = c.args.self.now in omega (arith, h.behind, h.inside, size-range h.c)

pub string-requires : goal.string-requires
string-requires c = let h = c.args.self.now in omega (arith, h.behind, h.inside, size-range h.c)

pub slash-requires : goal.slash-requires
slash-requires c = let h = c.args.self.now in omega (arith, h.behind, h.inside, size-range h.c)

pub returns-in-39 : goal.returns-in-39
returns-in-39 c = search (rules, from_quoted)

pub returns-in-34 : goal.returns-in-34
returns-in-34 c = search (rules, from_string)

pub returns-in-47 : goal.returns-in-47
returns-in-47 c = search (rules, from_slash)
