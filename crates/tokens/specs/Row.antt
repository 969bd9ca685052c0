-- The tokens that stand in a row of words, four words each.
use Rattle.std.specs.Prelude.{ℕ, List, [], ◌∷◌, get_or, take}
use Rattle.lexer.specs.KindWords as kinds
use Rattle.tokens.specs.declared.Token.{Token}

-- the row cut in fours; what is left over at its end is no token
unfoldable pub tokens_in : List ℕ → List Token
tokens_in [] = []
tokens_in (a ∷ []) = []
tokens_in (a ∷ b ∷ []) = []
tokens_in (a ∷ b ∷ c ∷ []) = []
tokens_in (k ∷ s ∷ e ∷ v ∷ r) = record { kind = k; start = s; end = e; value = v } ∷ tokens_in r

-- the first n tokens that stand in words
abbrev pub rows : ℕ → List ℕ → List Token
rows n w = take n (tokens_in w)

-- a line feed of no length
abbrev pub ended : Token
ended = record { kind = kinds.newline; start = 0; end = 0; value = 0 }

-- the token at an index; past the last one, a line feed
abbrev pub peek : List Token → ℕ → Token
peek ts i = get_or ts i ended
