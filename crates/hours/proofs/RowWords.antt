-- The windows of a row and the words of windows, there and back; and what a row is after windows are put at its front.
use Rattle.std.proofs.Common.{ℕ, ◌≤◌, ◌<◌, Bool, cond, ◌≡◌, refl, sym, ap, ap₂, ◌∙◌, le-ltb, lt-ltb, List, [], ◌∷◌, ◌++◌, length, take, drop, get_or, set, length-append, length-set, take-append-drop, drop-set-lt, arith}
use borrow.Rule.Slice.PartMut.{put_mid}
use Rattle.std.proofs.lemmas.List.{append_assoc, length-take, take_at, drop_at}
use Rattle.std.proofs.lemmas.Slice.{take-put_mid, drop-put_mid}
use Rattle.hours.specs.declared.Hours.{Hours}
use Rattle.hours.specs.declared.Added.{Added}
use Rattle.std.specs.Prelude.{Result, Ok, Err}
use Rattle.hours.specs.declared.HoursRefusal.{HoursRefusal}
use Rattle.hours.specs.Hours.{refusal_number, empty, added}
use Rattle.hours.specs.Rows.{hours_of, words_of, added_given, row_added}

-- the windows of a row that has all its words
abbrev pub full : List ℕ → Hours
full row = record { opens = take 32 (drop 1 row); closes = take 32 (drop 33 row); count = get_or row 0 0 }

pub hours_of-full : (row : List ℕ) → 65 ≤ length row → hours_of row ≡ full row
unfolding hours_of
hours_of-full row l = ap (λ (b : Bool). cond b empty (full row)) (le-ltb (length row) 65 l)

pub hours_of-short : (row : List ℕ) → length row < 65 → empty ≡ hours_of row
unfolding hours_of
hours_of-short row l = ap (λ (b : Bool). cond b empty (full row)) (sym (lt-ltb (length row) 65 l))

-- from its parts
pub hours_of-parts : (row os cs : List ℕ) → 65 ≤ length row → os ≡ take 32 (drop 1 row) → cs ≡ take 32 (drop 33 row) → record { opens = os; closes = cs; count = get_or row 0 0 } ≡ hours_of row
hours_of-parts row os cs l p q =
    let make : List ℕ → List ℕ → Hours = λ a b. record { opens = a; closes = b; count = get_or row 0 0 } in
    ap₂ make p q ∙ sym (hours_of-full row l)

-- the windows that were put there
pub hours_of-words : (h : Hours) (rest : List ℕ) → length h.opens ≡ 32 → length h.closes ≡ 32 → hours_of (words_of h ++ rest) ≡ h
hours_of-words h rest l k =
    let make : List ℕ → List ℕ → Hours = λ a b. record { opens = a; closes = b; count = h.count } in
    let e : (h.opens ++ h.closes) ++ rest ≡ h.opens ++ (h.closes ++ rest) = append_assoc h.opens h.closes rest in
    let p : take 32 ((h.opens ++ h.closes) ++ rest) ≡ h.opens = ap (take 32) e ∙ take_at h.opens (h.closes ++ rest) 32 l in
    let q : take 32 (drop 32 ((h.opens ++ h.closes) ++ rest)) ≡ h.closes = ap (λ (x : List ℕ). take 32 (drop 32 x)) e ∙ (ap (take 32) (drop_at h.opens (h.closes ++ rest) 32 l) ∙ take_at h.closes rest 32 k) in
    hours_of-full (words_of h ++ rest) (omega (arith, length-append (words_of h) rest, length-append h.opens h.closes))
    ∙ ap₂ make p q

-- the words behind them
pub drop-words : (h : Hours) (rest : List ℕ) → length h.opens ≡ 32 → length h.closes ≡ 32 → drop 65 (words_of h ++ rest) ≡ rest
drop-words h rest l k = drop_at (words_of h) rest 65 (omega (arith, length-append h.opens h.closes))

first_set : (row : List ℕ) (n : ℕ) → 1 ≤ length row → take 1 (set row 0 n) ≡ n ∷ []
first_set [] n l = absurd (omega arith)
first_set (x ∷ row) n l = refl

-- the count, the opening minutes and the closing minutes, put one after another
module _ (row os cs : List ℕ) (n : ℕ) (l : 65 ≤ length row) (k : length os ≡ 32) (j : length cs ≡ 32) where
  abbrev counted : List ℕ
  counted = set row 0 n

  abbrev opened : List ℕ
  opened = put_mid 1 32 counted os

  front : take 33 opened ≡ take 1 counted ++ os
  front = take-put_mid 1 32 counted os 33 (omega arith) (omega (arith, length-set row 0 n))

  room : 33 ≤ length opened
  room = omega (arith, ap length front, length-append (take 1 counted) os, length-take 33 opened, length-take 1 counted, length-set row 0 n)

  whole_front : take 65 (put_mid 33 32 opened cs) ≡ n ∷ (os ++ cs)
  whole_front =
      take-put_mid 33 32 opened cs 65 (omega arith) room
      ∙ (ap (λ (x : List ℕ). x ++ cs) front
      ∙ ap (λ (x : List ℕ). (x ++ os) ++ cs) (first_set row n (omega arith)))

  whole_rest : drop 65 (put_mid 33 32 opened cs) ≡ drop 65 row
  whole_rest =
      drop-put_mid 33 32 opened cs 65 (omega arith) room j
      ∙ (drop-put_mid 1 32 counted os 65 (omega arith) (omega (arith, length-set row 0 n)) k
      ∙ drop-set-lt 65 row 0 n (omega arith))

  pub put_words : put_mid 33 32 opened cs ≡ (n ∷ (os ++ cs)) ++ drop 65 row
  put_words = sym (take-append-drop 65 (put_mid 33 32 opened cs)) ∙ ap₂ (λ (a b : List ℕ). a ++ b) whole_front whole_rest

pub row_added-full : (row : List ℕ) (o c : ℕ) → 65 ≤ length row → row_added row o c ≡ added_given (added (hours_of row) o c) row
unfolding row_added
row_added-full row o c l = ap (λ (b : Bool). cond b (20, row) (added_given (added (hours_of row) o c) row)) (le-ltb (length row) 65 l)

pub row_added-short : (row : List ℕ) (o c : ℕ) → length row < 65 → (20, row) ≡ row_added row o c
unfolding row_added
row_added-short row o c l = ap (λ (b : Bool). cond b (20, row) (added_given (added (hours_of row) o c) row)) (sym (lt-ltb (length row) 65 l))

pub given-taken : (a : Added) (row : List ℕ) → a.answer ≡ Ok tt → (0, words_of a.hours ++ drop 65 row) ≡ added_given a row
given-taken a row e = rw e refl

pub given-refused : (a : Added) (row : List ℕ) (r : HoursRefusal) → a.answer ≡ Err r → (refusal_number r, row) ≡ added_given a row
given-refused a row r e = rw e refl

-- from what the code's calls answer
pub row_added-parts : (row : List ℕ) (o c : ℕ) (a : Added) (g : ℕ × List ℕ) → 65 ≤ length row → a ≡ added (hours_of row) o c → g ≡ added_given a row → g ≡ row_added row o c
row_added-parts row o c a g l e f = f ∙ (ap (λ (b : Added). added_given b row) e ∙ sym (row_added-full row o c l))
