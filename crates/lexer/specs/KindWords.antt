-- Describes the code: the words that stand in a row for the kinds of tokens, under the names
-- that crates/lexer/src/kind.rt gives them.
-- Files use this one as `kinds`.
use Rattle.std.specs.Prelude.{ℕ}
use Rattle.lexer.specs.Kinds.{kind_word}
use Rattle.lexer.specs.declared.kind.TokenKind.TheVariants.{Word, Number, Quoted, Str, LParen, RParen, LBrace, RBrace, Comma, Eq, Star, Other, Comment, Newline, UnterminatedString, UnterminatedQuote}

abbrev pub word : ℕ
word = kind_word Word

abbrev pub number : ℕ
number = kind_word Number

abbrev pub quoted : ℕ
quoted = kind_word Quoted

abbrev pub str : ℕ
str = kind_word Str

abbrev pub l_paren : ℕ
l_paren = kind_word LParen

abbrev pub r_paren : ℕ
r_paren = kind_word RParen

abbrev pub l_brace : ℕ
l_brace = kind_word LBrace

abbrev pub r_brace : ℕ
r_brace = kind_word RBrace

abbrev pub comma : ℕ
comma = kind_word Comma

abbrev pub eq : ℕ
eq = kind_word Eq

abbrev pub star : ℕ
star = kind_word Star

abbrev pub other : ℕ
other = kind_word Other

abbrev pub comment : ℕ
comment = kind_word Comment

abbrev pub newline : ℕ
newline = kind_word Newline

abbrev pub unterminated_string : ℕ
unterminated_string = kind_word UnterminatedString

abbrev pub unterminated_quote : ℕ
unterminated_quote = kind_word UnterminatedQuote
