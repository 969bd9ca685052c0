-- Where each section of a sheet begins, from the head's counts; the states begin the sheet.
use Rattle.std.specs.Prelude.{ℕ, ◌+◌, ◌*◌, List, drop}
use Rattle.machine.specs.declared.Counts.{Counts}

-- the words of Σ and all that follow
abbrev pub sigma_from : Counts → List ℕ → List ℕ
sigma_from n sheet = drop (3 * n.states) sheet

-- the words of Γ and all that follow
abbrev pub gamma_from : Counts → List ℕ → List ℕ
gamma_from n sheet = drop (3 * n.sigma) (sigma_from n sheet)

-- the words of the final states as they are listed, and all that follow
abbrev pub finals_from : Counts → List ℕ → List ℕ
finals_from n sheet = drop (3 * n.gamma) (gamma_from n sheet)

-- the words of the header's comments and all that follow
abbrev pub header_from : Counts → List ℕ → List ℕ
header_from n sheet = drop (3 * n.gamma + 2 * n.finals) (gamma_from n sheet)

-- the words of the trailing comments and all that follow
abbrev pub trailing_from : Counts → List ℕ → List ℕ
trailing_from n sheet = drop (2 * n.header) (header_from n sheet)

-- the words of the rules
abbrev pub rules_from : Counts → List ℕ → List ℕ
rules_from n sheet = drop (2 * n.trailing) (trailing_from n sheet)
