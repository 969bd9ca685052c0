-- A number in decimal without needless zeros, as ASCII digits.
use Rattle.std.specs.Prelude.{ℕ, zero, suc, ◌+◌, ◌/◌, ◌%◌, true, false, List, [], ◌∷◌, ltb}

-- the digits of n, of which there are at most k + 1, before what follows
unfoldable pub digits_from : ℕ → ℕ → List ℕ → List ℕ
digits_from zero n rest = (0x30 + n % 10) ∷ rest
digits_from (suc k) n rest = elim (ltb n 10) [ true ↦ (0x30 + n) ∷ rest | false ↦ digits_from k (n / 10) ((0x30 + n % 10) ∷ rest) ]

-- a number of 64 bits has at most 20 digits
unfoldable pub decimal : ℕ → List ℕ
unfolding digits_from
decimal n = digits_from 19 n []
