-- The tests of an ASCII character by ranges: a test that computes says that they agree with those by class.
use mathlib.Core.Path.{◌≡◌, refl, sym, ap, ◌∙◌}
use Prim.Native.Nat.{ℕ, zero, suc, ◌+◌, ◌-◌, ◌≤◌, ◌<◌}
use native.Mathlib.Omega.{arith}
use mathlib.Core.Logic.{⊎_elim}
use mathlib.Core.Bool.{Bool, true, false, ◌&&◌, ◌||◌, not}
use mathlib.Core.List.{List, [], ◌∷◌}
use lib.Dec.{leb, eqb}
use borrow.Author.Tests.{leb-true}
use Rattle.chars.proofs.Tests.{lt-or-ge, or_cases, and_both}
use Rattle.chars.proofs.Segments.{has, Not, no_none, no_more}
use Rattle.lexer.specs.Tokens.{is_whitespace}
use Rattle.lexer.proofs.Keywords.{all_below, all_below_lem}

-- two tests agree
abbrev pub agree : Bool → Bool → Bool
agree true b = b
agree false b = not b

pub agree_eq : (a b : Bool) → agree a b ≡ true → a ≡ b
agree_eq true b e = sym e
agree_eq false true e = cc
agree_eq false false e = refl

-- f gives b at n numbers from lo on, but for those of ks
abbrev pub each : (ℕ → Bool) → Bool → List ℕ → ℕ → ℕ → Bool
each f b ks lo zero = true
each f b ks lo (suc n) = (has ks lo || agree b (f lo)) && each f b ks (suc lo) n

pub each_of : (f : ℕ → Bool) (b : Bool) (ks : List ℕ) (c : ℕ) → Not c ks → (n lo : ℕ) → each f b ks lo n ≡ true → lo ≤ c → c < lo + n → b ≡ f c
each_of f b ks c miss zero lo e l u = absurd (omega arith)
each_of f b ks c miss (suc n) lo e l u =
    let w = and_both (has ks lo || agree b (f lo)) (each f b ks (suc lo) n) e in
    ⊎_elim (λ (g : lo < c). each_of f b ks c miss n (suc lo) w.1 (omega arith) (omega arith))
    (λ (g : c ≤ lo).
    let p : c ≡ lo = omega arith in
    ⊎_elim (λ (h : has ks lo ≡ true). absurd (miss lo h p)) (λ (h : agree b (f lo) ≡ true). agree_eq b (f lo) h ∙ ap f (sym p)) (or_cases (has ks lo) (agree b (f lo)) w.0))
    (lt-or-ge lo c)

-- ---- white space
abbrev blank : ℕ → Bool
blank c = (leb 0x09 c && leb c 0x0D) || eqb c 0x20

blank_right : all_below (λ (c : ℕ). agree (blank c) (is_whitespace c)) 128 ≡ true
unfolding is_whitespace
blank_right = refl

blank_is : (c : ℕ) → c < 128 → blank c ≡ is_whitespace c
blank_is c h = agree_eq (blank c) (is_whitespace c) (all_below_lem (λ (x : ℕ). agree (blank x) (is_whitespace x)) 128 blank_right c h)

module _ (c : ℕ) where
  blank_from : (lo hi : ℕ) (b : Bool) → (c ≡ 0x20 → ⊥) → lo ≤ c → c < hi → leb hi 128 ≡ true → each blank b (0x20 ∷ []) lo (hi - lo) ≡ true → b ≡ is_whitespace c
  blank_from lo hi b f l u k e =
      each_of blank b (0x20 ∷ []) c (no_more c (0x20 ∷ []) [] f (no_none c)) (hi - lo) lo e l (omega arith) ∙ blank_is c (omega (arith, leb-true hi 128 k))

  pub blank_dark : 0x20 ≤ c → c < 0x80 → (c ≡ 0x20 → ⊥) → is_whitespace c ≡ false
  blank_dark l u f = sym (blank_from 0x20 0x80 false f l u refl refl)
