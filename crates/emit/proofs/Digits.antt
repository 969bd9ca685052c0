-- A number in decimal: its digits are stored from the last to the first, and how many may be left does not matter.
use mathlib.Core.Path.{◌≡◌, refl, sym, ap, ◌∙◌}
use Prim.Native.Nat.{ℕ, zero, suc, ◌+◌, ◌-◌, ◌/◌, ◌%◌, ◌≤◌, ◌<◌, ◌^◌}
use native.Mathlib.Omega.{arith}
use native.Mathlib.Nat.{pow-succ', pow-le-pow_right}
use mathlib.Core.Logic.{⊎_elim}
use mathlib.Core.List.{List, [], ◌∷◌, ◌++◌, append_assoc}
use lib.ListN.{length, drop, take, set, length-set, length-drop}
use lib.Seq.{take_all, drop-cons, get_or-set_same, drop-set-lt}
use borrow.Author.Tests.{lt-ltb, le-ltb}
use Rattle.chars.proofs.Tests.{lt-or-ge}
use Rattle.emit.specs.declared.Output.{Output}
use Rattle.emit.specs.Appends.{Appends}
use Rattle.emit.specs.Decimal.{digits_from}

-- ---- the digits that are stored, and those that are left

-- a row from the index that was stored last
pub stored : (row : List ℕ) (i x : ℕ) → i < length row → drop i (set row i x) ≡ x ∷ drop (suc i) row
stored row i x h =
    drop-cons (set row i x) i 0 (omega (arith, length-set row i x)) ∙ rw (get_or-set_same row i x 0 h, drop-set-lt (suc i) row i x (omega arith))

module _ (i left : ℕ) (more : 10 ≤ left) (fits : left < 10 ^ i) where
  pub digits-index : 2 ≤ i
  digits-index = go i fits
    where
      go : (i : ℕ) → left < 10 ^ i → 2 ≤ i
      go zero h = absurd (omega arith)
      go (suc zero) h = absurd (omega arith)
      go (suc (suc i)) h = omega arith

  pub digits-left : 1 ≤ i - 1
  digits-left = omega (arith, digits-index)

  pub digits_fits : left / 10 < 10 ^ (i - 1)
  digits_fits = go i fits
    where
      go : (i : ℕ) → left < 10 ^ i → left / 10 < 10 ^ (i - 1)
      go zero h = absurd (omega arith)
      go (suc i) h = let e : suc i - 1 ≡ i = omega arith in rw e (omega (arith, pow-succ' 10 i))

  module _ (row d : List ℕ) (low : i ≤ 20) (room : length row ≡ 20) (inv : digits_from (i - 1) left (drop i row) ≡ d) where
    pub digits-next : digits_from (i - 1 - 1) (left / 10) (drop (i - 1) (set row (i - 1) (0x30 + left % 10))) ≡ d
    unfolding digits_from
    digits-next =
        let h = digits-index in
        let e : suc (i - 1) ≡ i = omega arith in
        let f : i - 1 ≡ suc (i - 1 - 1) = omega arith in
        rw (stored row (i - 1) (0x30 + left % 10) (omega arith), e) (rw (f, digits_from, le-ltb left 10 more) at inv)

pub digits_room : (i x : ℕ) (row : List ℕ) → length row ≡ 20 → length (set row i x) ≡ 20
digits_room i x row h = length-set row i x ∙ h

-- what is left is the first digit
pub digits_last : (i left : ℕ) (row d : List ℕ) → 1 ≤ i → i ≤ length row → left < 10 → digits_from (i - 1) left (drop i row) ≡ d
    → drop (i - 1) (set row (i - 1) (0x30 + left)) ≡ d
unfolding digits_from
digits_last i left row d p h l inv =
    let e : suc (i - 1) ≡ i = omega arith in
    stored row (i - 1) (0x30 + left) (omega arith) ∙ ap (λ (n : ℕ). (0x30 + left) ∷ drop n row) e ∙ sym (few (i - 1) left (drop i row) l) ∙ inv
  where
    few : (k n : ℕ) (rest : List ℕ) → n < 10 → digits_from k n rest ≡ (0x30 + n) ∷ rest
    few zero n rest h = let e : n % 10 ≡ n = omega arith in rw e
    few (suc k) n rest h = rw (digits_from, lt-ltb n 10 h)

-- the part of the row from the first digit on
pub digits-part : (i left : ℕ) (row d : List ℕ) → 1 ≤ i → i ≤ 20 → length row ≡ 20 → left < 10 → digits_from (i - 1) left (drop i row) ≡ d
    → take (20 - (i - 1)) (drop (i - 1) (set row (i - 1) (0x30 + left))) ≡ d
digits-part i left row d p h n l inv =
    take_all (20 - (i - 1)) (drop (i - 1) (set row (i - 1) (0x30 + left))) (omega (arith, length-drop (i - 1) (set row (i - 1) (0x30 + left)), length-set row (i - 1) (0x30 + left)))
    ∙ digits_last i left row d p (omega arith) l inv

pub digits_stored : (i left : ℕ) (row d : List ℕ) (o r : Output) → 1 ≤ i → i ≤ 20 → length row ≡ 20 → left < 10 → digits_from (i - 1) left (drop i row) ≡ d
    → Appends (take (20 - (i - 1)) (drop (i - 1) (set row (i - 1) (0x30 + left)))) o r → Appends d o r
digits_stored i left row d o r p h n l inv e = rw (← digits-part i left row d p h n l inv) e

-- ---- how many digits there may be

digits_more : (k n : ℕ) (rest : List ℕ) → n < 10 ^ suc k → digits_from (suc k) n rest ≡ digits_from k n rest
unfolding digits_from
digits_more zero n rest h = let e : n % 10 ≡ n = omega arith in rw (digits_from, lt-ltb n 10 (omega arith), e)
digits_more (suc k) n rest h =
    ⊎_elim (λ (l : n < 10). rw (digits_from, lt-ltb n 10 l))
    (λ (g : 10 ≤ n). rw (digits_from, le-ltb n 10 g) (digits_more k (n / 10) ((0x30 + n % 10) ∷ rest) (omega (arith, pow-succ' 10 (suc k)))))
    (lt-or-ge n 10)

pub digits-any : (j k n : ℕ) (rest : List ℕ) → n < 10 ^ suc k → digits_from (j + k) n rest ≡ digits_from k n rest
digits-any zero k n rest h = let e : 0 + k ≡ k = omega arith in rw e
digits-any (suc j) k n rest h =
    let e : suc j + k ≡ suc (j + k) = omega arith in
    let l : 10 ^ suc k ≤ 10 ^ suc (j + k) = pow-le-pow_right (omega arith) (omega arith) in
    rw e (digits_more (j + k) n rest (omega arith) ∙ digits-any j k n rest h)

pub digits-rest : (k n : ℕ) (rest : List ℕ) → digits_from k n rest ≡ digits_from k n [] ++ rest
unfolding digits_from
digits-rest zero n rest = refl
digits-rest (suc k) n rest =
    ⊎_elim (λ (l : n < 10). rw (digits_from, lt-ltb n 10 l))
    (λ (g : 10 ≤ n).
    let d : ℕ = 0x30 + n % 10 in
    rw (digits_from, le-ltb n 10 g)
    (digits-rest k (n / 10) (d ∷ rest) ∙ sym (append_assoc (digits_from k (n / 10) []) (d ∷ []) rest) ∙ ap (λ (l : List ℕ). l ++ rest) (sym (digits-rest k (n / 10) (d ∷ [])))))
    (lt-or-ge n 10)
