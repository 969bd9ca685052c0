-- What appending does: bytes after bytes, bytes past the room, and what stands in the row in the end.
use mathlib.Core.Path.{◌≡◌, refl, sym, ap, ap₂, ◌∙◌}
use Prim.Native.Nat.{ℕ, suc, ◌+◌, ◌-◌, ◌≤◌, ◌<◌, min}
use native.Mathlib.Omega.{arith}
use native.Mathlib.Nat.{add-zero}
use native.Mathlib.Numerals.{add-one}
use mathlib.Core.Logic.{◌⊎◌, inl, inr}
use mathlib.Core.List.{List, [], ◌∷◌, ◌++◌}
use lib.ListN.{length, get_or, drop, set, length-append, drop_of_length-le}
use lib.Seq.{sets, sets-eq, length-sets, set_out, drop-cons}
use Rattle.chars.proofs.Tests.{lt-or-ge}
use Rattle.emit.specs.Output.{Output, output, counted, appended}

-- ---- a run of stores

pub sets-append : (a b l : List ℕ) (i : ℕ) → sets (sets l i a) (i + length a) b ≡ sets l i (a ++ b)
sets-append [] b l i = ap (λ (n : ℕ). sets l n b) (add-zero i)
sets-append (x ∷ a) b l i =
    let e : i + suc (length a) ≡ suc i + length a = omega arith in
    ap (λ (n : ℕ). sets (sets (set l i x) (suc i) a) n b) e ∙ sets-append a b (set l i x) (suc i)

-- past the end nothing is stored
pub sets_out : (vs l : List ℕ) (i : ℕ) → length l ≤ i → sets l i vs ≡ l
sets_out [] l i h = refl
sets_out (x ∷ vs) l i h = ap (λ (m : List ℕ). sets m (suc i) vs) (set_out l i x h) ∙ sets_out vs l (suc i) (omega arith)

-- ---- appending

-- a row is shorter than the largest count
abbrev pub Row : Output → Type 0
Row o = length o.row < 18446744073709551616

pub appended-nil : (o : Output) → o.at < 18446744073709551616 → appended o [] ≡ o
unfolding appended
appended-nil o h = let e : counted o.at 0 ≡ o.at = omega arith in ap (output o.row) e

pub appended-append : (o : Output) → Row o → (a b : List ℕ) → appended (appended o a) b ≡ appended o (a ++ b)
unfolding appended
appended-append o h a b = ap₂ output (rows (lt-or-ge (o.at + length a) 18446744073709551616)) (omega (arith, length-append a b))
  where
    row : List ℕ
    row = sets o.row o.at a

    n : ℕ
    n = counted o.at (length a)

    short : length row < 18446744073709551616
    short = omega (arith, length-sets o.row o.at a)

    rows : (o.at + length a < 18446744073709551616) ⊎ (18446744073709551616 ≤ o.at + length a) → sets row n b ≡ sets o.row o.at (a ++ b)
    rows (inl l) = let e : n ≡ o.at + length a = omega arith in ap (λ (k : ℕ). sets row k b) e ∙ sets-append a b o.row o.at
    rows (inr g) =
        sets_out b row n (omega (arith, short)) ∙ sym (sets_out b row (o.at + length a) (omega (arith, short))) ∙ sets-append a b o.row o.at

-- the row as it was lent keeps its length
pub appended-length : (o : Output) (a : List ℕ) → length (appended o a).row ≡ length o.row
unfolding appended
appended-length o a = length-sets o.row o.at a

-- what fits stands at the front, and the bytes after it are as before
pub appended-front : (row a : List ℕ) → length row < 18446744073709551616 → length a ≤ length row
    → appended (output row 0) a ≡ output (a ++ drop (length a) row) (length a)
unfolding appended
appended-front row a s h =
    let e : 0 + length a ≡ length a = omega arith in
    ap₂ output (sets-eq a row 0 (omega arith) ∙ ap (λ (n : ℕ). a ++ drop n row) e) (omega arith)

-- with an empty row a body only counts
pub appended_empty : (at : ℕ) (a : List ℕ) → appended (output [] at) a ≡ output [] (counted at (length a))
unfolding appended
appended_empty at a = ap (λ (l : List ℕ). output l (counted at (length a))) (sets_out a [] at (omega arith))

-- ---- a byte

pub byte_full : (row : List ℕ) (at b end : ℕ) → length row ≤ at → end ≡ counted at 1 → output row end ≡ appended (output row at) (b ∷ [])
unfolding appended
byte_full row at b end h e = ap₂ output (sym (set_out row at b h)) e

pub byte_stored : (row : List ℕ) (at b end : ℕ) → end ≡ counted at 1 → output (set row at b) end ≡ appended (output row at) (b ∷ [])
unfolding appended
byte_stored row at b end e = ap (output (set row at b)) e

-- ---- a part: what is left of it, stored behind what is there

pub part_full : (row : List ℕ) (at : ℕ) (part : List ℕ) (end : ℕ) → length row ≤ at → end ≡ counted at (length part) → output row end ≡ appended (output row at) part
unfolding appended
part_full row at part end h e = ap₂ output (sym (sets_out part row at h)) e

pub part_start_lem : (row : List ℕ) (at : ℕ) (part : List ℕ) → sets row (at + 0) (drop 0 part) ≡ sets row at part
part_start_lem row at part = rw (add-zero at)

module _ (row₀ row : List ℕ) (at i : ℕ) (part : List ℕ) (inv : sets row (at + i) (drop i part) ≡ sets row₀ at part) where
  pub part-next : (x n : ℕ) → i < n → n ≡ min (length part) (length row₀ - at) → x ≡ get_or part i 0
      → sets (set row (at + i) x) (at + (i + 1)) (drop (i + 1) part) ≡ sets row₀ at part
  part-next x n l q e =
      let h : i < length part = omega arith in
      let s : at + (i + 1) ≡ suc (at + i) = omega arith in
      rw (s, add-one i, e) (rw (drop-cons part i 0 h) at inv)

  pub part_done : (end n : ℕ) → length row ≡ length row₀ → n ≤ i → n ≡ min (length part) (length row₀ - at) → end ≡ counted at (length part)
      → output row end ≡ appended (output row₀ at) part
  unfolding appended
  part_done end n s l q e = ap₂ output (go (lt-or-ge i (length part)) ∙ inv) e
    where
      go : (i < length part) ⊎ (length part ≤ i) → row ≡ sets row (at + i) (drop i part)
      go (inl h) = sym (sets_out (drop i part) row (at + i) (omega arith))
      go (inr h) = ap (sets row (at + i)) (sym (drop_of_length-le part h))
