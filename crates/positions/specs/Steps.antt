-- What the code does character by character: it describes the code, and no promise speaks of it but that of its own function.
use Rattle.std.specs.Prelude.{ℕ, ◌+◌, true, false, eqb}
use Rattle.positions.specs.declared.Position.{Position}

-- where a text begins
abbrev pub start : Position
start = record { line = 1; column = 1 }

-- the position behind a character
unfoldable pub next : Position → ℕ → Position
next p c = elim (eqb c 10) [ true ↦ record { line = p.line + 1; column = 1 } | false ↦ record { line = p.line; column = p.column + 1 } ]
