-- What a function that writes a piece leaves of an output. A piece is put in front of what follows: characters or bytes, of which
-- `code` makes bytes.
use Rattle.std.specs.Prelude.{ℕ, List, ◌≡◌}
use Rattle.emit.specs.Output.{appended}
use Rattle.emit.specs.declared.Output.{Output}
use Rattle.emit.specs.Appends.{held, lent_row}

-- a piece was put: its bytes were appended, whatever follows it, to the row that was lent
pub record Puts (code piece : List ℕ → List ℕ) (before after : Output) : Type 0 where
  pub put : (rest : List ℕ) → appended (held after) (code rest) ≡ appended (held before) (code (piece rest))
  pub same_row : lent_row after ≡ lent_row before
