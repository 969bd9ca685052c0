-- The words of a token, as the code has them.
use Rattle.std.specs.Prelude.{ℕ, ◌+◌, ◌*◌, List, get_or}
use Rattle.lexer.specs.Tokens.{Span, Token}
use Rattle.lexer.specs.Words.{kind_number, token_value}
use Rattle.tokens.specs.declared.Token.{Token as Words}

-- the words of a token
abbrev pub words_of : Token Span → Words
words_of t = record { kind = kind_number t.kind; start = t.place.start; end = t.place.end; value = token_value t }

-- the words of token number i of a row
abbrev pub token_in : List ℕ → ℕ → Words
token_in w i = record { kind = get_or w (4 * i) 0; start = get_or w (4 * i + 1) 0; end = get_or w (4 * i + 2) 0; value = get_or w (4 * i + 3) 0 }
