-- Laws of a token in its place: the characters of a word, the digits of a number, the bytes of a text.
use mathlib.Core.Path.{◌≡◌, refl, sym, ap, ◌∙◌}
use Prim.Native.Nat.{ℕ, ◌-◌, ◌<◌}
use native.Mathlib.Omega.{arith}
use mathlib.Core.Bool.{true, ◌&&◌}
use mathlib.Core.List.{List, [], ◌∷◌}
use mathlib.Core.Logic.{⊎_elim}
use lib.Dec.{leb, ltb}
use borrow.Author.Tests.{ltb-true, lt-ltb}
use lib.ListN.{length, drop, length-take, length-drop}
use Rattle.chars.specs.Utf8.{scalar, size, sizes}
use Rattle.chars.specs.Decoded.{scalars}
use Rattle.chars.proofs.Tests.{and_both, or_cases}
use Rattle.chars.proofs.Theorems.{length-encode}
use Rattle.lexer.specs.Tokens.{word, number, Span, Token, is_ascii_digit}
use Rattle.lexer.specs.Places.{chars_at}
use Rattle.lexer.proofs.Scans.{digit_range}
use Rattle.lexer.proofs.Keywords.{part-inside}
use Rattle.lexer.proofs.Steps.{digits, Good}
use Rattle.lexer.proofs.Placed.{Placed}

-- ---- a word's characters
scalar_below : (c : ℕ) → scalar c ≡ true → c < 0x110000
unfolding scalar
scalar_below c e = ⊎_elim (λ p. omega (arith, ltb-true c 0xD800 p)) (λ p. omega (arith, ltb-true c 0x110000 (and_both (leb 0xE000 c) (ltb c 0x110000) p).1)) (or_cases (ltb c 0xD800) (leb 0xE000 c && ltb c 0x110000) e)

pub first_below : (c : ℕ) (w : List ℕ) → scalars (c ∷ w) ≡ true → c < 0x110000
unfolding scalars
first_below c w e = scalar_below c (and_both (scalar c) (scalars w) e).0

pub word-scalars : (t : List ℕ) (w : List ℕ) (p q : Span) → Placed t (record { kind = word w; place = p; inner = q }) → scalars w ≡ true
word-scalars t w p q h = ap scalars (sym h.says) ∙ h.scalar

-- ---- a number's digits
pub number_digits : (w : List ℕ) → Good (number w) → digits w ≡ true
number_digits [] g = absurd g
number_digits (c ∷ w) g = g

pub digits-sizes : (w : List ℕ) → digits w ≡ true → sizes w ≡ length w
unfolding sizes size
digits-sizes [] g = refl
digits-sizes (c ∷ w) g =
    let u = and_both (is_ascii_digit c) (digits w) g in
    let h = digit_range c u.0 in
    rw (lt-ltb c 0x80 (omega arith)) (omega (arith, digits-sizes w u.1))

-- ---- the bytes of a token's text
pub token_width : (t : List ℕ) (x : Token Span) → Placed t x → x.inner.end - x.inner.start ≡ sizes (chars_at t x.inner)
token_width t x p =
    let a = x.inner.start in
    let b = x.inner.end in
    omega (
      arith,
      p.order,
      p.ends,
      p.inside,
      ap length (part-inside t a b p.order (omega (arith, p.ends, p.inside))),
      length-take (b - a) (drop a t),
      length-drop a t,
      ap length p.bytes,
      length-encode (chars_at t x.inner),
    )
