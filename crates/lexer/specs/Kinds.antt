-- Describes the code: its kinds of tokens as the words that stand in a row, and its pieces by them.
use Rattle.std.specs.Prelude.{ℕ}
use Rattle.lexer.specs.Places.{Found, Tok, Gap, End}
use Rattle.lexer.specs.declared.Piece.{Piece}
use Rattle.lexer.specs.declared.Piece.TheVariants as code
use Rattle.lexer.specs.declared.kind.TokenKind.{TokenKind}
use Rattle.lexer.specs.declared.kind.TokenKind.TheVariants.{Word, Number, Quoted, Str, LParen, RParen, LBrace, RBrace, Comma, Eq, Star, Other, Comment, Newline, UnterminatedString, UnterminatedQuote}

-- a kind's word: its place in the order of the source's TokenKind
abbrev pub kind_word : TokenKind → ℕ
kind_word Word = 0
kind_word Number = 1
kind_word Quoted = 2
kind_word Str = 3
kind_word LParen = 4
kind_word RParen = 5
kind_word LBrace = 6
kind_word RBrace = 7
kind_word Comma = 8
kind_word Eq = 9
kind_word Star = 10
kind_word Other = 11
kind_word Comment = 12
kind_word Newline = 13
kind_word UnterminatedString = 14
kind_word UnterminatedQuote = 15

-- what the code found, its kind as a word
abbrev pub found : Piece → Found
found (code.Token k e v n) = Tok (kind_word k) e v n
found (code.Gap n) = Gap n
found code.End = End
