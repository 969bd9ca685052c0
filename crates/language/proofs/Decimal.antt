-- The number of tapes in decimal: its digits are one number token. The facts about 0 to 255 are one computed test.
use Prim.Native.Nat.{ℕ, zero, suc, ◌+◌, ◌-◌, ◌/◌, ◌%◌, ◌<◌}
use mathlib.Core.Bool.{Bool, true, false, ◌&&◌, not, false≢true}
use mathlib.Core.List.{List, [], ◌∷◌, ◌++◌, append_assoc}
use mathlib.Core.Path.{◌≡◌, refl, ap, ◌∙◌, sym}
use native.Mathlib.Omega.{arith}
use borrow.Author.Tests.{eqb-true, eqb-false, not-true}
use lib.Dec.{ltb, eqb}
use lib.ListN.{length}
use lib.Seq.{drop-append_seam}
use Rattle.chars.specs.Utf8.{size, sizes}
use Rattle.chars.specs.Class.{class_of}
use Rattle.chars.specs.declared.Class.{Class}
use Rattle.chars.specs.declared.Class.TheVariants.{Letter, Digit, Space, Sign, Other}
use Rattle.lexer.specs.Tokens.{number, tok, is_digit, is_ascii_digit, number_step, step}
use Rattle.lexer.specs.Words.{value}
use Rattle.language.specs.Plain.{decimal_from, decimal}
use Rattle.language.proofs.Every.{by_test, and_left, and_right, All}
use Rattle.language.proofs.TokenKinds.{kinds, front}
use Rattle.language.proofs.PlainLex.{run-all}

-- ---- the number token

-- a number as the lexer takes it
abbrev pub IsNumber : List ℕ → Type 0
IsNumber [] = ⊥
IsNumber (c ∷ w) = (is_ascii_digit c ≡ true) × All is_ascii_digit w

pub digit_no_feed : (c : ℕ) → is_ascii_digit c ≡ true → eqb c 10 ≡ false
unfolding is_ascii_digit
digit_no_feed c h = by_test (eqb c 10) (λ e. absurd (false≢true (sym (ap is_ascii_digit (eqb-true c 10 e)) ∙ h))) (λ e. e)

digit_step : (c : ℕ) (r : List ℕ) → is_ascii_digit c ≡ true → step c r ≡ number_step c r
unfolding step is_ascii_digit
digit_step c r h = go (class_of c) refl
  where
    no : (k : Class) → class_of c ≡ k → is_digit k ≡ false → step c r ≡ number_step c r
    no k e f = absurd (false≢true (sym (ap is_digit e ∙ f) ∙ h))

    go : (k : Class) → class_of c ≡ k → step c r ≡ number_step c r
    go Digit e = rw (digit_no_feed c h, step) (rw e)
    go Letter e = no Letter e refl
    go Space e = no Space e refl
    go Sign e = no Sign e refl
    go Other e = no Other e refl

number_step_lem : (c : ℕ) (w : List ℕ) (d : ℕ) (r : List ℕ) → IsNumber (c ∷ w) → is_ascii_digit d ≡ false
    → step c (w ++ d ∷ r) ≡ tok (number (c ∷ w)) (size c + sizes w) 0 0 (length w)
unfolding number_step
number_step_lem c w d r h e = digit_step c (w ++ d ∷ r) h.0 ∙ rw (run-all is_ascii_digit w d r h.1 e, number_step)

pub number-kinds : (w : List ℕ) → IsNumber w → (d : ℕ) (r : List ℕ) → is_ascii_digit d ≡ false → kinds (w ++ d ∷ r) ≡ number w ∷ kinds (d ∷ r)
number-kinds [] h d r e = absurd h
number-kinds (c ∷ w) h d r e = front c (w ++ d ∷ r) (number_step_lem c w d r h e) ∙ ap (λ l. number (c ∷ w) ∷ kinds l) (drop-append_seam w (d ∷ r))

-- ---- digits

decimal_from_lem : (k n : ℕ) (rest : List ℕ) → decimal_from k n rest ≡ decimal_from k n [] ++ rest
unfolding decimal_from
decimal_from_lem zero n rest = refl
decimal_from_lem (suc k) n rest = by_test (ltb n 10)
    (λ e. rw (e, decimal_from))
    (λ e. rw (e, decimal_from) (decimal_from_lem k (n / 10) ((0x30 + n % 10) ∷ rest)
    ∙ (sym (append_assoc (decimal_from k (n / 10) []) ((0x30 + n % 10) ∷ []) rest) ∙ ap (λ l. l ++ rest) (sym (decimal_from_lem k (n / 10) ((0x30 + n % 10) ∷ []))))))

-- the digits of a number
unfoldable pub digits : ℕ → List ℕ
unfolding decimal
digits n = decimal n []

pub decimal-digits : (n : ℕ) (rest : List ℕ) → decimal n rest ≡ digits n ++ rest
unfolding decimal digits
decimal-digits n rest = decimal_from_lem 2 n rest

-- ---- 0 to 255

all_digits : List ℕ → Bool
unfolding is_ascii_digit
all_digits [] = true
all_digits (d ∷ l) = is_ascii_digit d && all_digits l

some_digits : List ℕ → Bool
unfolding all_digits
some_digits [] = false
some_digits (d ∷ l) = all_digits (d ∷ l)

-- a zero in front of another digit
unfoldable pub needless : List ℕ → Bool
needless [] = false
needless (d ∷ []) = false
needless (d ∷ e ∷ l) = eqb d 0x30

-- n is written in digits, they give n back, and none is needless
right : ℕ → Bool
unfolding digits value some_digits needless
right n = eqb (value (digits n)) n && (some_digits (digits n) && not (needless (digits n)))

-- a test holds of each number below k
unfoldable pub below : (ℕ → Bool) → ℕ → Bool
below p zero = true
below p (suc n) = p n && below p n

all_right : below right 256 ≡ true
unfolding below right
all_right = refl

pub at_below : (p : ℕ → Bool) (k : ℕ) → below p k ≡ true → (n : ℕ) → n < k → p n ≡ true
unfolding below
at_below p zero e n h = absurd (omega arith)
at_below p (suc k) e n h = by_test (eqb n k)
    (λ t. ap p (eqb-true n k t) ∙ and_left (p k) (below p k) e)
    (λ t. let ne : n ≡ k → ⊥ = eqb-false n k t in at_below p k (and_right (p k) (below p k) e) n (omega arith))

at_right : (n : ℕ) → n < 256 → (eqb (value (digits n)) n && (some_digits (digits n) && not (needless (digits n)))) ≡ true
unfolding right
at_right n h = at_below right 256 all_right n h

pub value-digits : (n : ℕ) → n < 256 → value (digits n) ≡ n
value-digits n h = eqb-true (value (digits n)) n (and_left (eqb (value (digits n)) n) _ (at_right n h))

pub no_needless : (n : ℕ) → n < 256 → needless (digits n) ≡ false
no_needless n h = not-true (needless (digits n))
    (and_right (some_digits (digits n)) (not (needless (digits n))) (and_right (eqb (value (digits n)) n) _ (at_right n h)))

all_of : (l : List ℕ) → all_digits l ≡ true → All is_ascii_digit l
unfolding all_digits
all_of [] e = tt
all_of (d ∷ l) e = (and_left (is_ascii_digit d) (all_digits l) e, all_of l (and_right (is_ascii_digit d) (all_digits l) e))

some_of : (l : List ℕ) → some_digits l ≡ true → IsNumber l
unfolding some_digits
some_of [] e = absurd (false≢true e)
some_of (d ∷ l) e = all_of (d ∷ l) e

pub digits_number : (n : ℕ) → n < 256 → IsNumber (digits n)
digits_number n h = some_of (digits n) (and_left (some_digits (digits n)) (not (needless (digits n))) (and_right (eqb (value (digits n)) n) _ (at_right n h)))
