-- The arguments of the program `run`: an option, and behind it its number.
use Rattle.std.specs.Prelude.{ℕ, ◌+◌, ◌-◌, ◌*◌, true, false, List, [], ◌∷◌, leb, ltb, bytes_eq}
use Rattle.std.specs.Prelude.{Option, Some, None, option_and_then}
use Rattle.std.specs.Char.{is_ascii_digit}
use Rattle.lexer.specs.Text.{codes}
use Rattle.run_arguments.specs.declared.Limits.{Limits}

-- ---- a number

-- the number that n and the digits behind it say; none where a byte is no digit
unfoldable pub value_from : ℕ → List ℕ → Option ℕ
value_from n [] = Some n
value_from n (b ∷ bs) = elim (is_ascii_digit b) [ true ↦ value_from (10 * n + (b - 0x30)) bs | false ↦ None ]

-- a number, if it has 64 bits at most
abbrev pub in_64_bits : ℕ → Option ℕ
in_64_bits n = elim (ltb n 18446744073709551616) [ true ↦ Some n | false ↦ None ]

-- the number that digits say in decimal; none where there are no digits, or it has more than 64 bits
unfoldable pub number_of : List ℕ → Option ℕ
unfolding value_from
number_of [] = None
number_of (b ∷ bs) = option_and_then in_64_bits (value_from 0 (b ∷ bs))

-- ---- an option

-- the most cells that the program has
abbrev pub max_cells : ℕ
max_cells = 262144

-- limits with another number of steps
abbrev pub with_steps : Limits → ℕ → Option Limits
with_steps l n = Some (record { steps = n; cells = l.cells })

-- limits with another number of cells; none where that is more than there are
abbrev pub with_cells : Limits → ℕ → Option Limits
with_cells l n = elim (leb n max_cells) [ true ↦ Some (record { steps = l.steps; cells = n }) | false ↦ None ]

-- limits with an option and its number: none where the option is neither of the two, or there is no such number
unfoldable pub with_option : Limits → List ℕ → List ℕ → Option Limits
unfolding number_of
with_option l name value = elim (bytes_eq name (codes "--steps")) [
  | true ↦ option_and_then (with_steps l) (number_of value)
  | false ↦ elim (bytes_eq name (codes "--cells")) [ true ↦ option_and_then (with_cells l) (number_of value) | false ↦ None ]
]
