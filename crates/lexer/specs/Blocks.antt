-- Describes the code: bytes that need no look at single characters.
use Rattle.std.specs.Prelude.{ℕ, ◌<◌, ◌≡◌, Bool, true, ◌&&◌, not, List, get_or, leb, ltb, eqb}

-- an ASCII character that is no control character
unfoldable pub plain_byte : ℕ → Bool
plain_byte b = leb 0x20 b && ltb b 0x80

-- an ASCII character that stands for itself inside a string
unfoldable pub inner_byte : ℕ → Bool
unfolding plain_byte
inner_byte b = plain_byte b && not (eqb b 0x22) && not (eqb b 0x5C)

-- eight ASCII characters, none of them a control character, of which the last two are no two spaces
pub record LineBlock (b : List ℕ) : Type 0 where
  pub plain : (j : ℕ) → j < 8 → plain_byte (get_or b j 0) ≡ true
  pub dark : get_or b 7 0 ≡ 0x20 → get_or b 6 0 ≡ 0x20 → ⊥
