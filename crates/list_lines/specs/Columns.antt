-- The position of a token is what an editor shows there: the characters before it are counted, whatever their sizes.
use Rattle.std.specs.Prelude.{ℕ, ◌≡◌, true, List, ◌++◌, All}
use Rattle.chars.specs.Utf8.{sizes, decode}
use Rattle.lexer.specs.Tokens.{Span, Token, tokens}
use Rattle.language.specs.Outcome.{admitted}
use Rattle.positions.specs.Positions.{behind, line_column}

-- the characters of a text are those before a token and those from it on, and its position is the one behind those before
pub record Shown (t : List ℕ) (token : Token Span) : Type 0 where
  pub before : List ℕ
  pub from : List ℕ
  pub parts : decode t ≡ before ++ from
  pub start : token.place.start ≡ sizes before
  pub position : line_column t token.place.start ≡ behind before

-- at the start of every token of an admitted text the column is one more than the characters of its line before it
abbrev pub Columns : Type 0
Columns = (t : List ℕ) → admitted t ≡ true → All (Shown t) (tokens (decode t))
