-- The bytes of a code point by its size.
use mathlib.Core.Path.{◌≡◌, sym, ◌∙◌}
use Prim.Native.Nat.{ℕ, ◌+◌, ◌/◌, ◌%◌, ◌<◌}
use native.Mathlib.Omega.{arith}
use mathlib.Core.List.{[], ◌∷◌}
use Rattle.chars.specs.Utf8.{size, encode_one}
use Rattle.chars.proofs.Encoding.{Sized, size_1, size_2, size_3, size_4, sized}
use Rattle.emit.specs.declared.Output.{Output}
use Rattle.emit.specs.Appends.{Appends}

-- ---- a size, a bound and the bytes

one : (c : ℕ) → size c ≡ 1 → (c < 0x80) × (encode_one c ≡ c ∷ [])
one c h = go (sized c)
  where
    go : Sized c → (c < 0x80) × (encode_one c ≡ c ∷ [])
    go (size_1 u s p) = (u, p)
    go (size_2 l u s p) = absurd (omega arith)
    go (size_3 l u s p) = absurd (omega arith)
    go (size_4 l s p) = absurd (omega arith)

two : (c : ℕ) → size c ≡ 2 → (c < 0x800) × (encode_one c ≡ (0xC0 + c / 64) ∷ (0x80 + c % 64) ∷ [])
two c h = go (sized c)
  where
    go : Sized c → (c < 0x800) × (encode_one c ≡ (0xC0 + c / 64) ∷ (0x80 + c % 64) ∷ [])
    go (size_1 u s p) = absurd (omega arith)
    go (size_2 l u s p) = (u, p)
    go (size_3 l u s p) = absurd (omega arith)
    go (size_4 l s p) = absurd (omega arith)

three : (c : ℕ) → size c ≡ 3 → (c < 0x10000) × (encode_one c ≡ (0xE0 + c / 64 / 64) ∷ (0x80 + c / 64 % 64) ∷ (0x80 + c % 64) ∷ [])
three c h = go (sized c)
  where
    go : Sized c → (c < 0x10000) × (encode_one c ≡ (0xE0 + c / 64 / 64) ∷ (0x80 + c / 64 % 64) ∷ (0x80 + c % 64) ∷ [])
    go (size_1 u s p) = absurd (omega arith)
    go (size_2 l u s p) = absurd (omega arith)
    go (size_3 l u s p) = (u, p)
    go (size_4 l s p) = absurd (omega arith)

four : (c : ℕ) → (size c ≡ 1 → ⊥) → (size c ≡ 2 → ⊥) → (size c ≡ 3 → ⊥)
    → (size c ≡ 4) × (encode_one c ≡ (0xF0 + c / 64 / 64 / 64) ∷ (0x80 + c / 64 / 64 % 64) ∷ (0x80 + c / 64 % 64) ∷ (0x80 + c % 64) ∷ [])
four c h k l = go (sized c)
  where
    go : Sized c → (size c ≡ 4) × (encode_one c ≡ (0xF0 + c / 64 / 64 / 64) ∷ (0x80 + c / 64 / 64 % 64) ∷ (0x80 + c / 64 % 64) ∷ (0x80 + c % 64) ∷ [])
    go (size_1 u s p) = absurd (h s)
    go (size_2 g u s p) = absurd (k s)
    go (size_3 g u s p) = absurd (l s)
    go (size_4 g s p) = (s, p)

-- ---- by the size n that the code found

module _ (n c : ℕ) (e : n ≡ size c) where
  -- the first byte is a byte
  pub one_fits : n ≡ 1 → c < 256
  one_fits h = omega (arith, (one c (sym e ∙ h)).0)

  pub two_fits : n ≡ 2 → 0xC0 + c / 64 < 256
  two_fits h = omega (arith, (two c (sym e ∙ h)).0)

  pub three_fits : n ≡ 3 → 0xE0 + c / 64 / 64 < 256
  three_fits h = omega (arith, (three c (sym e ∙ h)).0)

  -- the bytes stored are the code point's
  module _ (o r : Output) where
    pub one_form : n ≡ 1 → Appends (c ∷ []) o r → Appends (encode_one c) o r
    one_form h q = rw (one c (sym e ∙ h)).1 q

    pub two_form : (x : ℕ) → n ≡ 2 → x ≡ 0x80 + c % 64 → Appends ((0xC0 + c / 64) ∷ x ∷ []) o r → Appends (encode_one c) o r
    two_form x h p q = rw ((two c (sym e ∙ h)).1, ← p) q

    pub three-form : (x y : ℕ) → n ≡ 3 → x ≡ 0x80 + c / 64 % 64 → y ≡ 0x80 + c % 64
        → Appends ((0xE0 + c / 64 / 64) ∷ x ∷ y ∷ []) o r → Appends (encode_one c) o r
    three-form x y h p₁ p₂ q = rw ((three c (sym e ∙ h)).1, ← p₁, ← p₂) q

    pub four-form : (x y z : ℕ) → (n ≡ 1 → ⊥) → (n ≡ 2 → ⊥) → (n ≡ 3 → ⊥) → x ≡ 0x80 + c / 64 / 64 % 64 → y ≡ 0x80 + c / 64 % 64 → z ≡ 0x80 + c % 64
        → Appends ((0xF0 + c / 64 / 64 / 64) ∷ x ∷ y ∷ z ∷ []) o r → Appends (encode_one c) o r
    four-form x y z h k l p₁ p₂ p₃ q = rw ((four c (λ q. h (e ∙ q)) (λ q. k (e ∙ q)) (λ q. l (e ∙ q))).1, ← p₁, ← p₂, ← p₃) q
