-- A string read and written again, a character at a time.
use Rattle.std.specs.Prelude.{ℕ, suc, Bool, true, false, not, List, [], ◌∷◌, ◌++◌, ◌≡◌, eqb, length, None, Some}
use Rattle.lexer.specs.Tokens.{escape, closed, inside, unescape}
use Rattle.language.specs.Plain.{Piece, ◌⨾◌, only, escaped, in_string}

-- a backslash and c are an escape
unfoldable pub is_escape : ℕ → Bool
unfolding escape
is_escape c = elim (escape c) [ Some v ↦ true | None ↦ false ]

-- what a character between the quotes gives, escaped again; `true`: a backslash stands before it, which gave nothing yet
unfoldable pub rewritten : Bool → ℕ → Piece
unfolding escape escaped in_string
rewritten false c = only (not (eqb c 0x5C)) (in_string (escaped c) c)
rewritten true c = elim (escape c) [ Some v ↦ in_string (escaped v) v | None ↦ in_string (escaped 0x5C) 0x5C ⨾ in_string (escaped c) c ]

-- the characters between a string's quotes: the first quote that closes them is the one behind them
abbrev pub Whole : List ℕ → Type 0
Whole cs = inside false (cs ++ 0x22 ∷ []) ≡ closed (unescape cs) (suc (length cs))
