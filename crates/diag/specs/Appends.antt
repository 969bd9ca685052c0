-- What a function does to a log that it is lent.
use Rattle.std.specs.Prelude.{ℕ, ◌≡◌, ◌+◌, ◌^◌, ◌<◌, List}
use Rattle.diag.specs.declared.Diagnostic.{Diagnostic}
use Rattle.diag.specs.declared.log.Log.{Log}
use Rattle.diag.specs.Log.{logged, append_all}

-- a log can count n diagnostics more
abbrev pub CanCount : Log → ℕ → Type 0
CanCount l n = l.count + n < 2 ^ 64

-- a log l, and l' after ds were appended to it one after another: it lends the same row
pub record Appends (l l' : Log) (ds : List Diagnostic) : Type 0 where
  pub same_row : l'.row.ghost_name ≡ l.row.ghost_name
  pub written : logged l'.row.now l'.count ≡ append_all (logged l.row.now l.count) ds
