-- A number in decimal, a digit at a time: once it has more than 64 bits it has more at its end.
use Prim.Native.Nat.{ℕ, ◌+◌, ◌-◌, ◌*◌, ◌≤◌, ◌<◌}
use native.Mathlib.Omega.{arith}
use mathlib.Core.Bool.{true, false}
use mathlib.Core.List.{List, [], ◌∷◌}
use mathlib.Core.Path.{◌≡◌, refl, sym, ap, ◌∙◌}
use borrow.Author.Tests.{lt-ltb, le-ltb}
use lib.ListN.{length, get_or, drop}
use Rattle.std.specs.Prelude.{Option, Some, None, option_and_then}
use Rattle.std.specs.Char.{is_ascii_digit}
use Rattle.std.proofs.lemmas.List.{drop_more, drop_all}
use Rattle.language.proofs.Every.{by_test}
use Rattle.run_arguments.specs.Arguments.{value_from, in_64_bits, number_of}

-- the number, if it has 64 bits at most, of n and the digits behind it
unfoldable pub read_from : ℕ → List ℕ → Option ℕ
unfolding value_from
read_from n bs = option_and_then in_64_bits (value_from n bs)

too_wide : (n : ℕ) (bs : List ℕ) → 18446744073709551616 ≤ n → read_from n bs ≡ None
unfolding read_from value_from
too_wide n [] h = rw (value_from, in_64_bits, le-ltb n 18446744073709551616 h)
too_wide n (b ∷ bs) h = by_test (is_ascii_digit b)
    (λ e. rw (e, value_from) (too_wide (10 * n + (b - 0x30)) bs (omega arith)))
    (λ e. rw (e, value_from))

pub start : (ds : List ℕ) → (length ds ≡ 0 → ⊥) → read_from 0 ds ≡ number_of ds
unfolding read_from number_of
start [] h = absurd (h refl)
start (b ∷ bs) h = refl

pub nothing : (ds : List ℕ) → length ds ≡ 0 → None ≡ number_of ds
unfolding number_of
nothing [] h = refl
nothing (b ∷ bs) h = absurd (omega arith)

module _ (ds : List ℕ) (i n : ℕ) (all : read_from n (drop i ds) ≡ number_of ds) where
  at_end : (bs : List ℕ) → bs ≡ [] → n < 18446744073709551616 → read_from n bs ≡ Some n
  unfolding read_from value_from
  at_end bs e low = rw (e, value_from, lt-ltb n 18446744073709551616 low, in_64_bits)

  pub ends : length ds ≤ i → n < 18446744073709551616 → Some n ≡ number_of ds
  ends h low = sym (at_end (drop i ds) (drop_all i ds h) low) ∙ all

  module _ (h : i < length ds) where
    abbrev b : ℕ
    b = get_or ds i 0

    next : is_ascii_digit b ≡ true → read_from n (b ∷ drop (i + 1) ds) ≡ read_from (10 * n + (b - 0x30)) (drop (i + 1) ds)
    unfolding read_from value_from
    next e = rw (e, value_from)

    no_digit : is_ascii_digit b ≡ false → read_from n (b ∷ drop (i + 1) ds) ≡ None
    unfolding read_from value_from
    no_digit e = rw (e, value_from)

    split : read_from n (b ∷ drop (i + 1) ds) ≡ number_of ds
    split = sym (ap (read_from n) (drop_more ds i 0 h)) ∙ all

    -- another digit
    pub goes_on : is_ascii_digit b ≡ true → read_from (10 * n + (b - 0x30)) (drop (i + 1) ds) ≡ number_of ds
    goes_on e = sym (next e) ∙ split

    -- a byte that is none
    pub stops : is_ascii_digit b ≡ false → None ≡ number_of ds
    stops e = sym (no_digit e) ∙ split

    -- one digit too many
    pub overflows : is_ascii_digit b ≡ true → 18446744073709551616 ≤ 10 * n + (b - 0x30) → None ≡ number_of ds
    overflows e w = sym (too_wide (10 * n + (b - 0x30)) (drop (i + 1) ds) w) ∙ goes_on e
