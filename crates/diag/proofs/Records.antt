-- Laws of records as words: `flat` and `records` undo each other, and what a log holds after a list of diagnostics was appended.
use mathlib.Core.Path.{◌≡◌, refl, sym, ap, ◌∙◌}
use mathlib.Core.List.{List, [], ◌∷◌, ◌++◌, append_assoc}
use Prim.Native.Nat.{ℕ, zero, suc, ◌+◌, ◌-◌, ◌*◌, ◌/◌, ◌≤◌, ◌<◌}
use native.Mathlib.Nat.{le_of_suc-le-suc, sub-zero, add_assoc}
use native.Mathlib.Omega.{arith}
use lib.ListN.{length, get_or, set, take, drop, length-set, length-drop, take-append-drop}
use lib.Seq.{drop-drop, drop-cons, get_or-drop, get_or-take, ext_get_or, take_at, drop_at, set_at, length-take-le, sets, sets-eq, length-sets}
use Rattle.diag.specs.declared.Diagnostic.{Diagnostic}
use Rattle.diag.specs.Log.{unused, words, flat, record_from, records, whole, behind}

-- ---- words of a list of diagnostics
pub length-flat : (ds : List Diagnostic) → length (flat ds) ≡ 5 * length ds
unfolding flat
length-flat [] = refl
length-flat (d ∷ ds) = omega (arith, length-flat ds)

pub flat_append : (xs ys : List Diagnostic) → flat (xs ++ ys) ≡ flat xs ++ flat ys
unfolding flat
flat_append [] ys = refl
flat_append (x ∷ xs) ys = ap (λ (r : List ℕ). words x ++ r) (flat_append xs ys)

-- ---- records of words
pub length-records : (n : ℕ) (w : List ℕ) → length (records n w) ≡ n
unfolding records
length-records zero w = refl
length-records (suc n) w = ap suc (length-records n (drop 5 w))

-- the records of the words of ds are ds
pub records-flat : (ds : List Diagnostic) (r : List ℕ) → records (length ds) (flat ds ++ r) ≡ ds
unfolding flat records
records-flat [] r = refl
records-flat (d ∷ ds) r = ap (λ (ds : List Diagnostic). d ∷ ds) (records-flat ds r)

-- five words that are there, as a record
words-first : (w : List ℕ) → 5 ≤ length w → words (record_from w 0) ≡ take 5 w
words-first [] h = absurd (omega arith)
words-first (a ∷ []) h = absurd (omega arith)
words-first (a ∷ b ∷ []) h = absurd (omega arith)
words-first (a ∷ b ∷ c ∷ []) h = absurd (omega arith)
words-first (a ∷ b ∷ c ∷ d ∷ []) h = absurd (omega arith)
words-first (a ∷ b ∷ c ∷ d ∷ e ∷ w) h = refl

five : (n : ℕ) → 5 * suc n ≡ 5 + 5 * n
five n = omega arith

-- the words of the records that words hold are those words
pub flat-records : (n : ℕ) (w : List ℕ) → 5 * n ≤ length w → flat (records n w) ++ drop (5 * n) w ≡ w
unfolding flat records
flat-records zero w h = refl
flat-records (suc n) w h =
    let l : length (drop 5 w) ≡ length w - 5 = length-drop 5 w in
    let rest : drop (5 * suc n) w ≡ drop (5 * n) (drop 5 w) = ap (λ (k : ℕ). drop k w) (five n) ∙ sym (drop-drop (5 * n) 5 w) in
    ap (λ (v : List ℕ). (v ++ flat (records n (drop 5 w))) ++ drop (5 * suc n) w) (words-first w (omega arith))
    ∙ append_assoc (take 5 w) (flat (records n (drop 5 w))) (drop (5 * suc n) w)
    ∙ ap (λ (v : List ℕ). take 5 w ++ v) (ap (λ (v : List ℕ). flat (records n (drop 5 w)) ++ v) rest ∙ flat-records n (drop 5 w) (omega arith))
    ∙ take-append-drop 5 w

-- one record
from_drop : (w : List ℕ) (o : ℕ) → record_from (drop 5 w) o ≡ record_from w (5 + o)
from_drop w o = simp (get_or-drop, ← add_assoc)

pub get_d_records : (n : ℕ) (w : List ℕ) (i : ℕ) (d : Diagnostic) → i < n → get_or (records n w) i d ≡ record_from w (5 * i)
unfolding records
get_d_records zero w i d h = absurd (omega arith)
get_d_records (suc n) w zero d h = refl
get_d_records (suc n) w (suc i) d h = get_d_records n (drop 5 w) i d (le_of_suc-le-suc h) ∙ from_drop w (5 * i) ∙ ap (record_from w) (sym (five i))

-- the records behind the first m, and the first m
pub drop-records : (m n : ℕ) (w : List ℕ) → m ≤ n → drop m (records n w) ≡ records (n - m) (drop (5 * m) w)
unfolding records
drop-records zero n w h = ap (λ (k : ℕ). records k w) (sym (sub-zero n))
drop-records (suc m) zero w h = absurd (omega arith)
drop-records (suc m) (suc n) w h =
    let e : n - m ≡ suc n - suc m = omega arith in
    drop-records m n (drop 5 w) (le_of_suc-le-suc h) ∙ ap (records (n - m)) (drop-drop (5 * m) 5 w ∙ ap (λ (k : ℕ). drop k w) (sym (five m))) ∙ ap (λ (k : ℕ). records k (drop (5 * suc m) w)) e

pub take-records : (m n : ℕ) (w : List ℕ) → m ≤ n → take m (records n w) ≡ records m w
unfolding records
take-records zero n w h = refl
take-records (suc m) zero w h = absurd (omega arith)
take-records (suc m) (suc n) w h = ap (λ (ds : List Diagnostic). record_from w 0 ∷ ds) (take-records m n (drop 5 w) (le_of_suc-le-suc h))

-- ---- records of the first k words
from_take : (k : ℕ) (w : List ℕ) (o : ℕ) → o + 5 ≤ k → record_from (take k w) o ≡ record_from w o
from_take k w o h =
    cc (get_or-take k w o 0 (omega arith), get_or-take k w (o + 1) 0 (omega arith), get_or-take k w (o + 2) 0 (omega arith), get_or-take k w (o + 3) 0 (omega arith), get_or-take k w (o + 4) 0 (omega arith))

pub records-take : (n k : ℕ) (w : List ℕ) → 5 * n ≤ k → records n (take k w) ≡ records n w
records-take n k w h =
    let d : Diagnostic = record_from w 0 in
    let len : length (records n (take k w)) ≡ n = length-records n (take k w) in
    ext_get_or d (records n (take k w)) (records n w) (len ∙ sym (length-records n w))
    (λ i g. get_d_records n (take k w) i d (omega arith) ∙ from_take k w (5 * i) (omega arith) ∙ sym (get_d_records n w i d (omega arith)))

-- ---- records at the front of words, and behind
pub take-words : (k : ℕ) (w : List ℕ) → 5 * k ≤ length w → take (5 * k) w ≡ flat (records k w)
take-words k w h =
    ap (take (5 * k)) (sym (flat-records k w h)) ∙ take_at (flat (records k w)) (drop (5 * k) w) (5 * k) (length-flat (records k w) ∙ ap (λ (n : ℕ). 5 * n) (length-records k w))

pub drop-words : (k n : ℕ) (w : List ℕ) → k ≤ n → 5 * n ≤ length w → drop (5 * k) w ≡ flat (drop k (records n w)) ++ drop (5 * n) w
drop-words k n w h g =
    let o : 5 * k + 5 * (n - k) ≡ 5 * n = omega arith in
    let size : 5 * (n - k) ≤ length (drop (5 * k) w) = omega (arith, length-drop (5 * k) w) in
    sym (flat-records (n - k) (drop (5 * k) w) size)
    ∙ ap (λ (l : List Diagnostic). flat l ++ drop (5 * (n - k)) (drop (5 * k) w)) (sym (drop-records k n w h))
    ∙ ap (λ (r : List ℕ). flat (drop k (records n w)) ++ r) (drop-drop (5 * (n - k)) (5 * k) w ∙ ap (λ (j : ℕ). drop j w) o)

-- ---- all whole records of a row of words
pub length-whole : (w : List ℕ) → length (whole w) ≡ length w / 5
length-whole w = length-records (length w / 5) w

pub take-whole : (n : ℕ) (w : List ℕ) → 5 * n ≤ length w → take n (whole w) ≡ records n w
take-whole n w h = take-records n (length w / 5) w (omega arith)

-- a row whose first n records were replaced by ds
pub words-from : (n : ℕ) (w w' : List ℕ) (ds : List Diagnostic) → 5 * n ≤ length w → length w' ≡ length w → whole w' ≡ ds ++ drop n (whole w) → behind w' ≡ behind w
    → w' ≡ flat ds ++ drop (5 * n) w
words-from n w w' ds h len e r =
    sym (flat-records (length w' / 5) w' (omega arith)) ∙ ap (λ (l : List Diagnostic). flat l ++ behind w') e ∙ ap (λ (v : List ℕ). flat (ds ++ drop n (whole w)) ++ v) r
    ∙ ap (λ (v : List ℕ). v ++ behind w) (flat_append ds (drop n (whole w))) ∙ append_assoc (flat ds) (flat (drop n (whole w))) (behind w)
    ∙ ap (λ (v : List ℕ). flat ds ++ v) (sym (drop-words n (length w / 5) w (omega arith) (omega arith)))

-- a record that is stored
module _ (w : List ℕ) (i : ℕ) (d : Diagnostic) (h : i < length (whole w)) where
  abbrev stored : List Diagnostic
  stored = set (whole w) i d

  length-stored : length stored ≡ length w / 5
  length-stored = length-set (whole w) i d ∙ length-whole w

  stored-parts : stored ≡ take i (whole w) ++ (d ∷ drop (suc i) (whole w))
  stored-parts =
      ap (λ (l : List Diagnostic). set l i d) (sym (take-append-drop i (whole w)) ∙ ap (λ (l : List Diagnostic). take i (whole w) ++ l) (drop-cons (whole w) i unused h))
      ∙ set_at (take i (whole w)) (get_or (whole w) i unused) (drop (suc i) (whole w)) d i (length-take-le i (whole w) (omega arith))

  stored-words : sets w (5 * i) (words d) ≡ flat stored ++ behind w
  unfolding flat
  stored-words =
      let n : ℕ = length w / 5 in
      let k : 5 * i + 5 ≡ 5 * suc i = omega arith in
      let front : take (5 * i) w ≡ flat (take i (whole w)) = take-words i w (omega (arith, length-whole w)) ∙ ap flat (sym (take-whole i w (omega (arith, length-whole w)))) in
      let back : drop (5 * i + 5) w ≡ flat (drop (suc i) (whole w)) ++ behind w =
      ap (λ (j : ℕ). drop j w) k ∙ drop-words (suc i) n w (omega (arith, length-whole w)) (omega arith) in
      let all : flat stored ≡ flat (take i (whole w)) ++ (words d ++ flat (drop (suc i) (whole w))) =
      ap flat stored-parts ∙ flat_append (take i (whole w)) (d ∷ drop (suc i) (whole w)) in
      sets-eq (words d) w (5 * i) (omega (arith, length-whole w)) ∙ rw (front, back, all) (simp append_assoc)

  pub whole-stored : whole (sets w (5 * i) (words d)) ≡ stored
  whole-stored =
      let n : ℕ = length w / 5 in
      ap (λ (k : ℕ). records (k / 5) (sets w (5 * i) (words d))) (length-sets w (5 * i) (words d)) ∙ ap (records n) stored-words
      ∙ ap (λ (k : ℕ). records k (flat stored ++ behind w)) (sym length-stored) ∙ records-flat stored (behind w)

  pub behind-stored : behind (sets w (5 * i) (words d)) ≡ behind w
  behind-stored =
      let n : ℕ = length w / 5 in
      let len : length (flat stored) ≡ 5 * n = length-flat stored ∙ ap (λ (k : ℕ). 5 * k) length-stored in
      ap (λ (k : ℕ). drop (5 * (k / 5)) (sets w (5 * i) (words d))) (length-sets w (5 * i) (words d)) ∙ ap (drop (5 * n)) stored-words
      ∙ drop_at (flat stored) (behind w) (5 * n) len
