-- The number of rules as the code computes it: a product that fits its type at each step.
use Rattle.std.proofs.Common.{ℕ, suc, ◌+◌, ◌*◌, ◌<◌, ◌≡◌, refl, ap₂, Bool, true, ltb, ltb-true, w64, Fits, arith}
use Rattle.lexer.proofs.Keywords.{all_below, all_below_lem}
use Rattle.longest.specs.Line.{set_size, product_of}

fits_test : ℕ → ℕ → Bool
fits_test h i = ltb (product_of h i * set_size h i) 18446744073709551616

fits_tests : all_below (λ (h : ℕ). all_below (fits_test h) 5) 41 ≡ true
unfolding fits_test product_of
fits_tests = refl

product_fits : (h i : ℕ) → h < 41 → i < 5 → product_of h i * set_size h i < 18446744073709551616
unfolding fits_test
product_fits h i a b =
    ltb-true (product_of h i * set_size h i) 18446744073709551616 (all_below_lem (fits_test h) 5 (all_below_lem (λ (h : ℕ). all_below (fits_test h) 5) 41 fits_tests h a) i b)

-- the product so far, and one size more
pub next_fits : (h i number size : ℕ) → h < 41 → i < 5 → number ≡ product_of h i → size ≡ set_size h i → Fits w64 (number * size)
next_fits h i number size a b e f = record { fits = rw (e, f) (product_fits h i a b) }

pub next_is : (h i number size : ℕ) → number ≡ product_of h i → size ≡ set_size h i → number * size ≡ product_of h (i + 1)
unfolding product_of
next_is h i number size e f = let s : i + 1 ≡ suc i = omega arith in rw s (ap₂ (λ (a b : ℕ). a * b) e f)
