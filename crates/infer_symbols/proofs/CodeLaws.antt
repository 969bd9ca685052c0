-- Laws of characters noted in a row of words.
use mathlib.Core.Path.{◌≡◌, refl, sym, ap, subst, ◌∙◌}
use mathlib.Core.Bool.{Bool, true, false, cond, ◌||◌, false≢true}
use mathlib.Core.List.{List, [], ◌∷◌, ◌++◌, append-nil}
use Prim.Native.Nat.{ℕ, zero, suc, ◌+◌, ◌-◌, ◌≤◌, ◌<◌, min}
use native.Mathlib.Omega.{arith}
use native.Mathlib.Numerals.{add-one}
use borrow.Rule.Slice.PartMut.{mid_of, put_mid}
use borrow.Author.Tests.{eq-eqb, eqb-true, eqb-false, lt-ltb, ltb-true}
use lib.Dec.{eqb, ltb}
use lib.ListN.{length, get_or, take, drop, set, length-set, length-append, length-drop, length-replicate, replicate, drop_of_length-le}
use lib.Seq.{take-set-le, length-take-le, get_or-append-add, get_or-set_same, get_or-set_other, take-suc-set}
use Rattle.std.specs.List.{list_any}
use Rattle.std.proofs.lemmas.Bool.{or_right}
use Rattle.diag.proofs.Cases.{by_test_lem}
use Rattle.language.specs.Infer.{member}
use Rattle.infer_symbols.specs.Codes.{noted, noted_all, slot, hint_of, Looked, shown, Hinted}
use Rattle.infer_symbols.proofs.CodesMean.{member_last}

-- ---- the hints
-- what a hint shows, where it is looked at and where it is not
pub shown_some : (t n : ℕ) (r : List ℕ) (c i : ℕ) → Looked t n r c → i ≡ length r - 1 - slot c → eqb (get_or r i 0) c ≡ shown t n r c
unfolding shown
shown_some t n r c i l e = rw (lt-ltb (slot c) t l.one, lt-ltb (n + t) (length r) l.room, e)

pub shown_none : (t n : ℕ) (r : List ℕ) (c : ℕ) → (Looked t n r c → ⊥) → false ≡ shown t n r c
unfolding shown
shown_none t n r c f =
    by_test_lem (ltb (slot c) t)
    (λ p. by_test_lem (ltb (n + t) (length r)) (λ q. absurd (f (record { one = ltb-true (slot c) t p; room = ltb-true (n + t) (length r) q }))) (λ q. rw (p, q))) (λ p. rw p)

-- cleared, they say that nothing is noted
zeros-at : (k i : ℕ) → get_or {A = ℕ} (replicate k 0) i 0 ≡ 0
zeros-at zero i = refl
zeros-at (suc k) zero = refl
zeros-at (suc k) (suc i) = zeros-at k i

module _ (t : ℕ) (r : List ℕ) (s : ℕ) (start : s ≡ length r - t) (v : List ℕ) (cleared : v ≡ take s r ++ replicate (length r - s) 0) where
  front : length (take s r) ≡ s
  front = length-take-le s r (omega (arith, start))

  pub cleared-length : length v ≡ length r
  cleared-length = omega (arith, ap length cleared, front, length-append (take s r) (replicate (length r - s) 0), length-replicate {A = ℕ} (length r - s) 0)

  zero_at : (i : ℕ) → length r ≤ i + t → get_or v i 0 ≡ 0
  zero_at i h =
      let e : i ≡ length (take s r) + (i - s) = omega (arith, front, start) in
      ap (λ (l : List ℕ). get_or l i 0) cleared ∙ ap (λ (k : ℕ). get_or (take s r ++ replicate (length r - s) 0) k 0) e
      ∙ get_or-append-add (take s r) (replicate (length r - s) 0) (i - s) 0 ∙ zeros-at (length r - s) (i - s)

  pub cleared_hints : Hinted t 0 v
  unfolding member
  cleared_hints = record { right = λ m i h nz. absurd (nz (zero_at i (omega (arith, cleared-length)))); full = λ c l nz e. absurd (false≢true e) }

pub cleared : (t : ℕ) (r : List ℕ) (s : ℕ) → s ≡ length r - t → (ys : List ℕ) → ys ≡ replicate (length (mid_of s (length r - s) r)) 0 → Hinted t 0 (put_mid s (length r - s) r ys)
cleared t r s start ys zeros =
    let n : length (mid_of s (length r - s) r) ≡ length r - s = length-take-le (length r - s) (drop s r) (omega (arith, length-drop s r)) in
    let all : drop (length r - s) (drop s r) ≡ [] = drop_of_length-le (drop s r) {i = length r - s} (omega (arith, length-drop s r)) in
    cleared_hints t r s start (put_mid s (length r - s) r ys)
    (ap (λ (l : List ℕ). take s r ++ (ys ++ l)) all ∙ ap (λ (l : List ℕ). take s r ++ l) (append-nil ys ∙ zeros ∙ ap (λ (n : ℕ). replicate n 0) n))

-- ---- one code more
member-front : (cs : List ℕ) (c x : ℕ) → member eqb cs x ≡ true → member eqb (cs ++ c ∷ []) x ≡ true
member-front cs c x e = member_last cs c x ∙ or_right (eqb c x) (member eqb cs x) e

member-append : (cs : List ℕ) (c : ℕ) → member eqb (cs ++ c ∷ []) c ≡ true
member-append cs c = member_last cs c c ∙ ap (λ (t : Bool). t || member eqb cs c) (eq-eqb c c refl)

-- the hints of one code more: all as before, but for one word at most, which is that code
module _ (t n c : ℕ) (w v : List ℕ) (h : Hinted t n w) (long : length v ≡ length w) (more : take (n + 1) v ≡ take n w ++ c ∷ []) (k : ℕ)
    (same : (i : ℕ) → (i ≡ k → ⊥) → length w ≤ i + t → n + 1 + t < length w → get_or v i 0 ≡ get_or w i 0)
    (new : n + 1 + t < length w → length w ≤ k + t → get_or v k 0 ≡ c)
    (some : n + 1 + t < length w → length w ≤ k + t → c ≡ 0 → ⊥)
    (own : Looked t (n + 1) v c → (c ≡ 0 → ⊥) → hint_of v c ≡ 0 → ⊥) where
  right_more : n + 1 + t < length v → (i : ℕ) → length v ≤ i + t → (get_or v i 0 ≡ 0 → ⊥) → member eqb (take (n + 1) v) (get_or v i 0) ≡ true
  right_more r i l nz = ap (λ (cs : List ℕ). member eqb cs (get_or v i 0)) more ∙ by_test_lem (eqb i k)
      (λ y. let e : get_or v i 0 ≡ c = ap (λ (j : ℕ). get_or v j 0) (eqb-true i k y) ∙ new (omega (arith, long)) (omega (arith, long, eqb-true i k y)) in
      ap (member eqb (take n w ++ c ∷ [])) e ∙ member-append (take n w) c)
      (λ y. let e : get_or v i 0 ≡ get_or w i 0 = same i (eqb-false i k y) (omega (arith, long)) (omega (arith, long)) in
      ap (member eqb (take n w ++ c ∷ [])) e ∙ member-front (take n w) c (get_or w i 0) (h.right (omega (arith, long)) i (omega (arith, long)) (λ z. nz (e ∙ z))))

  full_more : (x : ℕ) → Looked t (n + 1) v x → (x ≡ 0 → ⊥) → member eqb (take (n + 1) v) x ≡ true → hint_of v x ≡ 0 → ⊥
  full_more x l nz e z = by_test_lem (eqb c x)
      (λ y. let q : c ≡ x = eqb-true c x y in own (subst (Looked t (n + 1) v) (sym q) l) (λ o. nz (sym q ∙ o)) (ap (hint_of v) q ∙ z))
      (λ y.
      let there : member eqb (take n w) x ≡ true = sym (ap (λ (t : Bool). t || member eqb (take n w) x) y) ∙ sym (member_last (take n w) c x) ∙ ap (λ (cs : List ℕ). member eqb cs x) (sym more) ∙ e in
      let p : ℕ = length v - 1 - slot x in
      let low : length w ≤ p + t = omega (arith, long, l.one, l.room) in
      by_test_lem (eqb p k)
      (λ u. some (omega (arith, long, l.room)) (omega (arith, low, eqb-true p k u)) (sym (new (omega (arith, long, l.room)) (omega (arith, low, eqb-true p k u))) ∙ ap (λ (j : ℕ). get_or v j 0) (sym (eqb-true p k u)) ∙ z))
      (λ u. h.full x (record { one = l.one; room = omega (arith, long, l.room) }) nz there
      (ap (λ (m : ℕ). get_or w (m - 1 - slot x) 0) (sym long) ∙ sym (same p (eqb-false p k u) low (omega (arith, long, l.room))) ∙ z)))

  hints_more : Hinted t (n + 1) v
  hints_more = record { right = right_more; full = full_more }

module _ (t n c : ℕ) (w : List ℕ) (h : Hinted t n w) (room : n < length w) where
  -- a character is noted whose hint is left as it is: it is not looked at, or it is another's, or that of 0
  pub more_other : (Looked t n w c → (c ≡ 0 → ⊥) → hint_of w c ≡ 0 → ⊥) → Hinted t (n + 1) (set w n c)
  more_other other =
      let v : List ℕ = set w n c in
      let long : length v ≡ length w = length-set w n c in
      let same : (i : ℕ) → (i ≡ n → ⊥) → get_or v i 0 ≡ get_or w i 0 = λ i nz. get_or-set_other w n i c 0 nz in
      hints_more t n c w v h long (ap (λ (k : ℕ). take k v) (add-one n) ∙ take-suc-set w n c room) n (λ i nz l r. same i nz) (λ r l. absurd (omega arith)) (λ r l. absurd (omega arith))
      (λ l nz z. other (record { one = l.one; room = omega (arith, long, l.room) }) nz
      (ap (λ (m : ℕ). get_or w (m - 1 - slot c) 0) (sym long) ∙ sym (same (length v - 1 - slot c) (λ q. omega (arith, l.room, l.one))) ∙ z))

  -- a character is noted, and its hint stored with it
  pub more_first : Looked t n w c → (i : ℕ) → i ≡ length w - 1 - slot c → (c ≡ 0 → ⊥) → Hinted t (n + 1) (set (set w i c) n c)
  more_first look i at nz =
      let u : List ℕ = set w i c in
      let v : List ℕ = set u n c in
      let long : length v ≡ length w = length-set u n c ∙ length-set w i c in
      let away : n < i = omega (arith, look.room, look.one) in
      let more : take (n + 1) v ≡ take n w ++ c ∷ [] =
      ap (λ (k : ℕ). take k v) (add-one n) ∙ take-suc-set u n c (omega (arith, length-set w i c)) ∙ ap (λ (l : List ℕ). l ++ c ∷ []) (take-set-le n w i c (omega arith)) in
      let hint : get_or v i 0 ≡ c = get_or-set_other u n i c 0 (λ q. omega arith) ∙ get_or-set_same w i c 0 (omega (arith, look.room)) in
      hints_more t n c w v h long more i
      (λ j q l r. get_or-set_other u n j c 0 (λ s. omega arith) ∙ get_or-set_other w i j c 0 q) (λ r l. hint) (λ r l. nz)
      (λ l k y. nz (sym hint ∙ ap (λ (j : ℕ). get_or v j 0) (at ∙ ap (λ (m : ℕ). m - 1 - slot c) (sym long)) ∙ y))

-- ---- many codes
pub noted-append : (cs xs ys : List ℕ) → noted_all cs (xs ++ ys) ≡ noted_all (noted_all cs xs) ys
unfolding noted_all
noted-append cs [] ys = refl
noted-append cs (x ∷ xs) ys = noted-append (noted cs x) xs ys

-- noting one character, where it is noted already and where it is not
pub noted_in : (cs : List ℕ) (c : ℕ) → member eqb cs c ≡ true → noted_all cs (c ∷ []) ≡ cs
unfolding noted noted_all
noted_in cs c e = rw e

pub noted-new : (cs : List ℕ) (c : ℕ) → member eqb cs c ≡ false → noted_all cs (c ∷ []) ≡ cs ++ c ∷ []
unfolding noted noted_all
noted-new cs c e = rw e

-- what is noted is there
pub noted-member : (cs : List ℕ) (c : ℕ) → member eqb (noted_all cs (c ∷ [])) c ≡ true
unfolding noted noted_all
noted-member cs c = go (member eqb cs c) refl
  where
    go : (b : Bool) → member eqb cs c ≡ b → member eqb (cond b cs (cs ++ c ∷ [])) c ≡ true
    go true e = e
    go false e = member-append cs c

-- nothing is taken away
noted_more : (cs : List ℕ) (c : ℕ) → length cs ≤ length (noted cs c)
unfolding noted
noted_more cs c = go (member eqb cs c)
  where
    go : (t : Bool) → length cs ≤ length (cond t cs (cs ++ c ∷ []))
    go true = omega arith
    go false = omega (arith, length-append cs (c ∷ []))

pub noted_all_more : (cs xs : List ℕ) → length cs ≤ length (noted_all cs xs)
unfolding noted_all
noted_all_more cs [] = omega arith
noted_all_more cs (x ∷ xs) = omega (arith, noted_more cs x, noted_all_more (noted cs x) xs)

-- a search through the codes
pub any-member : (l : List ℕ) (c : ℕ) → list_any (λ y. eqb y c) l ≡ member eqb l c
unfolding member
any-member [] c = refl
any-member (x ∷ l) c = ap (λ (b : Bool). eqb x c || b) (any-member l c)

pub taken-few : (n : ℕ) (r : List ℕ) (k : ℕ) → k ≡ min n (length r) → n ≤ length r → take k r ≡ take n r
taken-few n r k e h = let q : k ≡ n = omega arith in ap (λ (k : ℕ). take k r) q
