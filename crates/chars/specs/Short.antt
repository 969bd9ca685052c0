-- Describes the code, and no rule of a text: characters of two and three bytes, told by their bytes.
use Rattle.std.specs.Prelude.{ℕ, ◌+◌, ◌-◌, ◌*◌, ◌≤◌, ◌<◌, ◌≡◌, Bool, true, ◌&&◌, ◌||◌, Option, Some, None, cond, List, ltb, leb, drop}
use Rattle.chars.specs.Utf8.{size, Front, one, bad, none, front}
use Rattle.chars.specs.Ranges.{within}
use Rattle.chars.specs.Class.{admitted}
use Rattle.chars.specs.Decoded.{decoded_at}

-- a continuation byte
unfoldable pub is_tail : ℕ → Bool
is_tail b = leb 0x80 b && ltb b 0xC0

-- two bytes that are a character
unfoldable pub is_two : ℕ → ℕ → Bool
unfolding is_tail
is_two a b = (leb 0xC2 a && ltb a 0xE0) && is_tail b

-- the character of two bytes
unfoldable pub two_code : ℕ → ℕ → ℕ
two_code a b = (a - 0xC0) * 64 + (b - 0x80)

-- a character that its first bytes tell: of two bytes, or of three that begin with E2
unfoldable pub is_short : ℕ → Bool
is_short c = (leb 0x80 c && ltb c 0x800) || (leb 0x2000 c && ltb c 0x3000)

-- two bytes that are a character of the set, of those whose first byte tells it
unfoldable pub plain_two : ℕ → ℕ → Bool
unfolding is_tail
plain_two a b = ((leb 0xC2 a && ltb a 0xCB) || (leb 0xCE a && ltb a 0xD2)) && is_tail b

-- the place behind what stands at a place, where that is a character of the set
unfoldable pub plain_next : ℕ → Front → Option ℕ
unfolding within size
plain_next at (one c) = cond (within admitted c) (Some (at + size c)) None
plain_next at bad = None
plain_next at none = None

-- the character c stands at the place at of the text t, and next behind it: it has two bytes that T takes, or three and lies from
-- lo to below hi
pub data Short (t : List ℕ) (at : ℕ) (T : ℕ → ℕ → Bool → Type 0) (lo hi c next : ℕ) : Type 0 where
  of_two : Some (c, next) ≡ decoded_at at (front (drop at t)) → (a b : ℕ) → T a b true → c ≡ two_code a b → Short t at T lo hi c next
  of_three : Some (c, next) ≡ decoded_at at (front (drop at t)) → lo ≤ c → c < hi → Short t at T lo hi c next
