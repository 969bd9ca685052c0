-- What an exported call leaves of a row that is lent for its answer.
use Rattle.std.specs.Prelude.{ℕ, true, false, List, ◌++◌, nat_le, length, drop}

-- n words at the front of a row that has room for all of them, else nothing changed
abbrev pub front_put : {A : Type 0} → ℕ → List A → List A → List A
front_put n words row = elim (nat_le n (length row)) [ true ↦ words ++ drop n row | false ↦ row ]
