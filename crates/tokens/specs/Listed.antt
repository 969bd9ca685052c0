-- What the tokens at the front of a row are to the definitions.
use Rattle.std.specs.Prelude.{List}
use Rattle.tokens.specs.declared.Token.{Token}
use Rattle.tokens.specs.declared.Tokens.{Tokens}
use Rattle.tokens.specs.Row.{rows}

-- the tokens
abbrev pub tokens_of : Tokens → List Token
tokens_of t = rows t.count t.words.now
