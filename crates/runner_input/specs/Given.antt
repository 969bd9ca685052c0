-- Describes the code: what a character between a string's quotes gives to the string's value, and codes put into a row.
use Rattle.std.specs.Prelude.{ℕ, Bool, true, false, not, ◌&&◌, List, [], ◌∷◌, ◌++◌, Some, None, ◌≡◌, eqb}
use lib.Seq.{sets}
use Rattle.lexer.specs.Tokens.{escape}

-- whether the string ends here; `true`: a backslash waits for this character
abbrev pub ends : Bool → ℕ → Bool
ends slash c = not slash && eqb c 0x22

-- whether this is a backslash that waits for the next character
abbrev pub waits : Bool → ℕ → Bool
waits slash c = not slash && eqb c 0x5C

-- what a character gives; a backslash gives nothing until the character behind it is known
unfoldable pub given : Bool → ℕ → List ℕ
unfolding escape
given false c = elim (eqb c 0x5C) [ true ↦ [] | false ↦ c ∷ [] ]
given true c = elim (escape c) [ Some v ↦ v ∷ [] | None ↦ 0x5C ∷ c ∷ [] ]

-- codes were put into a row: what follows them goes behind them, and past the row's end nothing is stored
pub record CodesPut (codes before : List ℕ) (at : ℕ) (after : List ℕ) (next : ℕ) : Type 0 where
  pub put : (rest : List ℕ) → sets after next rest ≡ sets before at (codes ++ rest)
