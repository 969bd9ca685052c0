-- What an output holds, and what appending to it does.
use Rattle.std.specs.Prelude.{ℕ, List, length, ◌≡◌, ◌<◌, ◌^◌}
use Rattle.std.specs.Borrow.{GName}
use Rattle.emit.specs.Output as O
use Rattle.emit.specs.Output.{output, appended}
use Rattle.emit.specs.declared.Output.{Output}

-- the row that was lent, as it is so far, and how many bytes were appended
abbrev pub held : Output → O.Output
held o = output o.row.now o.at

-- the loan itself: which row was lent
abbrev pub lent_row : Output → GName
lent_row o = o.row.ghost_name

-- bytes were appended, to the row that was lent
pub record Appends (bytes : List ℕ) (before after : Output) : Type 0 where
  pub appends : held after ≡ appended (held before) bytes
  pub same_row : lent_row after ≡ lent_row before
  pub short : length before.row.now < 2 ^ 64
