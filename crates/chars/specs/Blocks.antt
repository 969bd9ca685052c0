-- Describes the code, and no rule of a text: eight bytes at once.
use Rattle.std.specs.Prelude.{ℕ, ◌+◌, List, get_or}
use Rattle.std.specs.Int.Bits.{bit_or}

-- the bits that stand in any of the eight bytes at a place
unfoldable pub ors : List ℕ → ℕ → ℕ
ors t i =
    bit_or (bit_or (get_or t i 0) (bit_or (get_or t (i + 1) 0) (bit_or (get_or t (i + 2) 0) (get_or t (i + 3) 0))))
    (bit_or (get_or t (i + 4) 0) (bit_or (get_or t (i + 5) 0) (bit_or (get_or t (i + 6) 0) (get_or t (i + 7) 0))))
