-- Sets of code points as lists of ranges.
use Rattle.std.specs.Prelude.{ℕ, List, [], ◌∷◌, Bool, true, false, cond, ◌&&◌, leb}

-- the code points from the first to the last, both included
pub data Range : Type 0 where
  to : ℕ → ℕ → Range

-- a range with what it gives
pub data Entry (A : Type 0) : Type 0 where
  row : ℕ → ℕ → A → Entry A

-- the ranges of a list all give k, before the rows of a table
abbrev pub rows : {A : Type 0} → A → List Range → List (Entry A) → List (Entry A)
rows k [] t = t
rows k (to lo hi ∷ r) t = row lo hi k ∷ rows k r t

-- what the first range that holds c gives; z where none does
unfoldable pub lookup : {A : Type 0} → List (Entry A) → A → ℕ → A
lookup [] z c = z
lookup (row lo hi k ∷ r) z c = cond (leb lo c && leb c hi) k (lookup r z c)

-- c stands in one of the ranges
unfoldable pub within : List Range → ℕ → Bool
unfolding lookup
within rs c = lookup (rows true rs []) false c
