-- Bytes appended to a lent row: stored as far as there is room, counted in any case.
use Rattle.std.specs.Prelude.{ℕ, ◌+◌, min, List, length}
use Rattle.std.proofs.lemmas.List.Edits.{sets}

-- a row of bytes, and how many were appended so far: the next goes to that index
pub record Output : Type 0 where
  pub row : List ℕ
  pub at : ℕ

-- an output, from its parts
abbrev pub output : List ℕ → ℕ → Output
output row at = record { row = row; at = at }

-- a count of 64 bits and n more; it stays at the largest, behind the end of every row
abbrev pub counted : ℕ → ℕ → ℕ
counted at n = min (at + n) 18446744073709551615

-- bytes appended; those past the row's end are only counted
unfoldable pub appended : Output → List ℕ → Output
appended o bytes = output (sets o.row o.at bytes) (counted o.at (length bytes))
