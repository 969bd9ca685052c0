-- Records that are left of a section, taken one after the other: by their index, or each from the words behind those before.
use mathlib.Core.Path.{◌≡◌, ◌∙◌}
use Prim.Native.Nat.{ℕ, suc, ◌+◌, ◌-◌, ◌≤◌, ◌<◌}
use native.Mathlib.Omega.{arith}
use mathlib.Core.List.{List, [], ◌∷◌}
use lib.ListN.{get_or, take, drop}
use lib.Seq.{get_or-take, get_or-drop, drop-drop}
use Rattle.language.specs.Agreement.{groups, records, at}

-- the records from the i-th of n on, whose words begin at j
pub left : ℕ → ℕ → ℕ → ℕ → List ℕ → List (List ℕ)
left k n i j ws = groups k (n - i) (drop j ws)

pub left-all : (k n : ℕ) (ws : List ℕ) → left k n 0 0 ws ≡ groups k n ws
unfolding left
left-all k n ws = let e : n - 0 ≡ n = omega arith in rw e

pub left-next : (k n i j : ℕ) (ws : List ℕ) → i < n → left k n i j ws ≡ take k (drop j ws) ∷ left k n (i + 1) (j + k) ws
unfolding left groups
left-next k n i j ws h =
    let e : n - i ≡ suc (n - (i + 1)) = omega arith in
    rw (e, drop-drop k j ws)

pub left-none : (k n i j : ℕ) (ws : List ℕ) → n ≤ i → left k n i j ws ≡ []
unfolding left groups
left-none k n i j ws h = let e : n - i ≡ 0 = omega arith in rw e

-- ---- of n records of k words, those behind i

pub groups-start : (k n : ℕ) (ws : List ℕ) → groups k (n - 0) ws ≡ groups k n ws
groups-start k n ws = let e : n - 0 ≡ n = omega arith in rw e

pub groups-next : (k n i : ℕ) (ws : List ℕ) → i < n → groups k (n - i) ws ≡ take k ws ∷ groups k (n - (i + 1)) (drop k ws)
unfolding groups
groups-next k n i ws h = let e : n - i ≡ suc (n - (i + 1)) = omega arith in rw e

pub groups-end : (k n i : ℕ) (ws : List ℕ) → n ≤ i → groups k (n - i) ws ≡ []
unfolding groups
groups-end k n i ws h = let e : n - i ≡ 0 = omega arith in rw e

-- ---- of n records that begin with their length, those behind i

pub records-start : (n : ℕ) (ws : List ℕ) → records (n - 0) ws ≡ records n ws
records-start n ws = let e : n - 0 ≡ n = omega arith in rw e

pub records-next : (n i : ℕ) (ws : List ℕ) → i < n → records (n - i) ws ≡ take (at ws 0) ws ∷ records (n - (i + 1)) (drop (at ws 0) ws)
unfolding records
records-next n i ws h = let e : n - i ≡ suc (n - (i + 1)) = omega arith in rw e

pub records-end : (n i : ℕ) (ws : List ℕ) → n ≤ i → records (n - i) ws ≡ []
unfolding records
records-end n i ws h = let e : n - i ≡ 0 = omega arith in rw e

-- ---- words

-- a word of the record at j
pub word_in : (k j o : ℕ) (ws : List ℕ) → o < k → get_or (take k (drop j ws)) o 0 ≡ get_or ws (j + o) 0
word_in k j o ws h = get_or-take k (drop j ws) o 0 h ∙ get_or-drop j ws o 0
