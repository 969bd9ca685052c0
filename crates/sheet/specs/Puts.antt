-- What a sheet holds, and what storing words on it does.
use Rattle.std.specs.Prelude.{ℕ, ◌+◌, ◌≡◌, min, List, [], ◌∷◌, slice_set}
use Rattle.std.specs.Borrow.{GName}
use Rattle.sheet.specs.declared.put.Sheet.{Sheet}

-- a row of words, and how many were counted so far: the next goes to that index
pub record Held : Type 0 where
  pub row : List ℕ
  pub at : ℕ

-- the row that was lent, as it is so far
abbrev pub held : Sheet → Held
held s = record { row = s.row.now; at = s.at }

-- the loan itself: which row was lent
abbrev pub lent_row : Sheet → GName
lent_row s = s.row.ghost_name

-- words stored one after the other: those past the row's end are only counted, and the count stays at the
-- largest of 64 bits, behind the end of every row
unfoldable pub put : Held → List ℕ → Held
put h [] = h
put h (x ∷ ws) = put (record { row = slice_set h.row h.at x; at = min (h.at + 1) 18446744073709551615 }) ws

-- words were stored, on the row that was lent
pub record Puts (words : List ℕ) (before after : Sheet) : Type 0 where
  pub puts : held after ≡ put (held before) words
  pub same_row : lent_row after ≡ lent_row before
