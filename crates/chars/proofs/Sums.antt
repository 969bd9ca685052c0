-- One and the outcomes of three comparisons are the size of a code point, and so the length of its UTF-8 form.
use mathlib.Core.Path.{◌≡◌, sym, ◌∙◌}
use Prim.Native.Nat.{ℕ, ◌+◌, ◌≤◌, ◌<◌}
use native.Mathlib.Omega.{arith}
use mathlib.Core.Logic.{◌⊎◌, inl, inr}
use lib.Dec.{leb}
use lib.ListN.{length}
use borrow.Author.Tests.{lt-ltb, le-ltb, le-leb, lt-leb}
use mir.Val.{bool_byte}
use Rattle.chars.specs.Utf8.{size, encode_one}
use Rattle.chars.proofs.Tests.{lt-or-ge}
use Rattle.chars.proofs.Encoding.{length-encode_one}

module _ (c : ℕ) where
  -- a comparison for each bound, by the side of it on which the code point lies
  pub sum_size : 1 + bool_byte (leb 0x80 c) + bool_byte (leb 0x800 c) + bool_byte (leb 0x10000 c) ≡ size c
  unfolding size
  sum_size = go (lt-or-ge c 0x80) (lt-or-ge c 0x800) (lt-or-ge c 0x10000)
    where
      go : (c < 0x80) ⊎ (0x80 ≤ c) → (c < 0x800) ⊎ (0x800 ≤ c) → (c < 0x10000) ⊎ (0x10000 ≤ c) → 1 + bool_byte (leb 0x80 c) + bool_byte (leb 0x800 c) + bool_byte (leb 0x10000 c) ≡ size c
      go (inl h) k l = rw (lt-leb 0x80 c h, lt-leb 0x800 c (omega arith), lt-leb 0x10000 c (omega arith), lt-ltb c 0x80 h)
      go (inr g) (inl h) l = rw (le-leb 0x80 c g, lt-leb 0x800 c h, lt-leb 0x10000 c (omega arith), le-ltb c 0x80 g, lt-ltb c 0x800 h)
      go (inr g) (inr k) (inl h) = rw (le-leb 0x80 c g, le-leb 0x800 c k, lt-leb 0x10000 c h, le-ltb c 0x80 g, le-ltb c 0x800 k, lt-ltb c 0x10000 h)
      go (inr g) (inr k) (inr h) = rw (le-leb 0x80 c g, le-leb 0x800 c k, le-leb 0x10000 c h, le-ltb c 0x80 g, le-ltb c 0x800 k, le-ltb c 0x10000 h)

  pub sum_length : 1 + bool_byte (leb 0x80 c) + bool_byte (leb 0x800 c) + bool_byte (leb 0x10000 c) ≡ length (encode_one c)
  sum_length = sum_size ∙ sym (length-encode_one c)

-- what closes the goals of `len_utf8`
pub ruleset sums = (sum_size, sum_length)
