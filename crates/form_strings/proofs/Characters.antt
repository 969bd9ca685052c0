-- A scalar value is below 0x110000, which is what appending a code point asks.
use mathlib.Core.Path.{◌≡◌}
use Prim.Native.Nat.{ℕ, ◌<◌}
use native.Mathlib.Omega.{arith}
use mathlib.Core.Logic.{◌⊎◌, inl, inr}
use mathlib.Core.Bool.{true, ◌&&◌}
use lib.Dec.{ltb, leb}
use borrow.Author.Tests.{ltb-true}
use Rattle.chars.specs.Utf8.{scalar}
use Rattle.chars.proofs.Tests.{or_cases, and_both}

pub scalar_below : (c : ℕ) → scalar c ≡ true → c < 0x110000
unfolding scalar
scalar_below c h = go (or_cases (ltb c 0xD800) (leb 0xE000 c && ltb c 0x110000) h)
  where
    go : (ltb c 0xD800 ≡ true) ⊎ ((leb 0xE000 c && ltb c 0x110000) ≡ true) → c < 0x110000
    go (inl e) = omega (arith, ltb-true c 0xD800 e)
    go (inr e) = ltb-true c 0x110000 (and_both (leb 0xE000 c) (ltb c 0x110000) e).1
