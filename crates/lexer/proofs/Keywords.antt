-- Laws of names: when two are equal, parts of a text, and the table of keywords.
use mathlib.Core.Path.{◌≡◌, refl, sym, ap, ◌∙◌}
use Prim.Native.Nat.{ℕ, zero, suc, ◌+◌, ◌-◌, ◌≤◌, ◌<◌}
use native.Mathlib.Omega.{arith}
use native.Mathlib.Numerals.{add-one}
use mathlib.Core.Logic.{◌⊎◌, inl, inr, ⊎_elim}
use mathlib.Core.Bool.{Bool, true, false, cond, ◌&&◌}
use mathlib.Core.List.{List, [], ◌∷◌}
use lib.Dec.{eqb, leb}
use lib.ListN.{length, get_or, take, drop, drop_of_length-le}
use lib.Seq.{drop-cons}
use borrow.Author.Tests.{eq-eqb, eqb-true, eqb-false, le-leb, lt-leb}
use Rattle.chars.proofs.Tests.{and_both, lt-or-ge}
use Rattle.chars.proofs.Segments.{has, Not, no_none, no_more}
use Rattle.lexer.specs.Text.{same}
use Rattle.lexer.specs.Words.{position}
use Rattle.lexer.specs.Keywords.{keyword_bytes, numbered, keywords_of, number_in}
use Rattle.lexer.specs.Places.{part, part_start}
use Rattle.diag.proofs.Cases.{by_test_lem as by_test}

-- ---- equality of lists of numbers
pub same_true : (a b : List ℕ) → same a b ≡ true → a ≡ b
same_true [] [] e = refl
same_true [] (y ∷ ys) e = cc
same_true (x ∷ xs) [] e = cc
same_true (x ∷ xs) (y ∷ ys) e =
    let w = and_both (eqb x y) (same xs ys) e in
    let p = eqb-true x y w.0 in
    let q = same_true xs ys w.1 in
    cc

pub same_refl : (a : List ℕ) → same a a ≡ true
same_refl [] = refl
same_refl (x ∷ xs) = rw (eq-eqb x x refl) (same_refl xs)

-- two tests of which each gives the other are equal
pub tests_equal : (a b : Bool) → (a ≡ true → b ≡ true) → (b ≡ true → a ≡ true) → a ≡ b
tests_equal true b f g = sym (f refl)
tests_equal false true f g = g refl
tests_equal false false f g = refl

pub same_lengths : (a b : List ℕ) → (length a ≡ length b → ⊥) → false ≡ same a b
same_lengths a b f = by_test (same a b) (λ e. absurd (f (ap length (same_true a b e)))) (λ e. sym e)

-- ---- a part of a text, whose own address is n
module _ (t : List ℕ) (a b : ℕ) where
  pub part-inside : a ≤ b → b ≤ length t → take (b - a) (drop a t) ≡ part t a b
  unfolding part
  part-inside g h = rw (le-leb a b g, le-leb b (length t) h)

  pub start-inside : (n : ℕ) → a ≤ b → b ≤ length t → a + n ≡ n + part_start t a b
  unfolding part_start
  start-inside n g h = rw (part_start, le-leb a b g, le-leb b (length t) h) (omega arith)

  -- the offsets lie outside the text, as the code finds it
  abbrev Outside : Type 0
  Outside = ((a ≤ b) × (length t < b)) ⊎ (b < a)

  outside_lem : Outside → (leb a b && leb b (length t)) ≡ false
  outside_lem (inl h) = rw (le-leb a b h.0, lt-leb b (length t) h.1)
  outside_lem (inr g) = rw (lt-leb a b g)

  pub part_outside : Outside → [] ≡ part t a b
  unfolding part
  part_outside h = rw (part, outside_lem h)

  pub start_outside : (n : ℕ) → Outside → n ≡ n + part_start t a b
  unfolding part_start
  start_outside n h = rw (part_start, outside_lem h) (omega arith)

-- ---- the table of keywords
abbrev pub all_below : (ℕ → Bool) → ℕ → Bool
all_below f zero = true
all_below f (suc n) = f n && all_below f n

pub all_below_lem : (f : ℕ → Bool) (n : ℕ) → all_below f n ≡ true → (k : ℕ) → k < n → f k ≡ true
all_below_lem f zero e k h = absurd (omega arith)
all_below_lem f (suc n) e k h =
    let w = and_both (f n) (all_below f n) e in
    ⊎_elim (λ (l : k < n). all_below_lem f n w.1 k l) (λ (g : n ≤ k). let p : k ≡ n = omega arith in rw p w.0) (lt-or-ge k n)

pub position_true : (n : ℕ) (w : List ℕ) (ws : List (List ℕ)) (x : List ℕ) → same w x ≡ true → position n (w ∷ ws) x ≡ n
unfolding position
position_true n w ws x e = rw (e, position)

pub position_false : (n : ℕ) (w : List ℕ) (ws : List (List ℕ)) (x : List ℕ) → same w x ≡ false → position n (w ∷ ws) x ≡ position (suc n) ws x
unfolding position
position_false n w ws x e = rw (e, position)

-- ---- the keywords of a length
-- the loop of `number_among`: the number n is that of what is left from place i on, where x stands
module _ (ks : List (ℕ × List ℕ)) (i : ℕ) (x : ℕ × List ℕ) (w : List ℕ) (n : ℕ) (inv : number_in (drop i ks) w ≡ n) (h : i < length ks) (at : x ≡ get_or ks i x) where
  tested : (b : Bool) → same x.1 w ≡ b → cond b x.0 (number_in (drop (suc i) ks) w) ≡ n
  unfolding number_in
  tested b e =
      ap (λ (c : Bool). cond c x.0 (number_in (drop (suc i) ks) w)) (sym e)
      ∙ ap (λ (y : ℕ × List ℕ). number_in (y ∷ drop (suc i) ks) w) at
      ∙ sym (ap (λ (l : List (ℕ × List ℕ)). number_in l w) (drop-cons ks i x h))
      ∙ inv

  pub number_here : x.1 ≡ w → x.0 ≡ n
  number_here e = tested true (rw e (same_refl w))

  pub number_behind : (x.1 ≡ w → ⊥) → number_in (drop (i + 1) ks) w ≡ n
  number_behind f = rw add-one (tested false (by_test (same x.1 w) (λ e. absurd (f (same_true x.1 w e))) (λ e. e)))

pub number_nowhere : (ks : List (ℕ × List ℕ)) (i : ℕ) (w : List ℕ) (n : ℕ) → number_in (drop i ks) w ≡ n → length ks ≤ i → 0 ≡ n
unfolding number_in
number_nowhere ks i w n inv h = sym (ap (λ (l : List (ℕ × List ℕ)). number_in l w) (drop_of_length-le ks h)) ∙ inv

-- the keywords of a name's length are enough: one of another length is not the name
numbered_is : (ks : List (List ℕ)) (n : ℕ) (w : List ℕ) → number_in (numbered (length w) n ks) w ≡ position n ks w
unfolding number_in numbered position
numbered_is [] n w = refl
numbered_is (k ∷ ks) n w =
    by_test (eqb (length k) (length w))
    (λ e. by_test (same k w)
    (λ p. rw (e, numbered) (rw p (sym (position_true n k ks w p))))
    (λ p. rw (e, numbered) (rw p (numbered_is ks (suc n) w ∙ sym (position_false n k ks w p)))))
    (λ e.
    let p : same k w ≡ false = sym (same_lengths k w (eqb-false (length k) (length w) e)) in
    rw (e, numbered) (numbered_is ks (suc n) w ∙ sym (position_false n k ks w p)))

pub keyword_of-length : (m r : ℕ) (w : List ℕ) → length w ≡ m → r ≡ number_in (keywords_of m) w → r ≡ position 1 keyword_bytes w
unfolding keywords_of
keyword_of-length m r w e p = p ∙ sym (ap (λ (j : ℕ). number_in (numbered j 1 keyword_bytes) w) e) ∙ numbered_is keyword_bytes 1 w

abbrev lengths : List ℕ
lengths = 1 ∷ 2 ∷ 3 ∷ 4 ∷ 5 ∷ 6 ∷ 7 ∷ 8 ∷ 10 ∷ []

abbrev all_in : List (List ℕ) → Bool
all_in [] = true
all_in (k ∷ ks) = has lengths (length k) && all_in ks

lengths_right : all_in keyword_bytes ≡ true
unfolding keyword_bytes
lengths_right = refl

no_position_lem : (ks : List (List ℕ)) (n : ℕ) (w : List ℕ) → all_in ks ≡ true → Not (length w) lengths → 0 ≡ position n ks w
unfolding position
no_position_lem [] n w e f = refl
no_position_lem (k ∷ ks) n w e f =
    let u = and_both (has lengths (length k)) (all_in ks) e in
    let p : same k w ≡ false = sym (same_lengths k w (λ (z : length k ≡ length w). f (length k) u.0 (sym z))) in
    no_position_lem ks (suc n) w u.1 f ∙ sym (position_false n k ks w p)

pub keyword_of-none : (w : List ℕ) → (length w ≡ 1 → ⊥) → (length w ≡ 2 → ⊥) → (length w ≡ 3 → ⊥) → (length w ≡ 4 → ⊥) → (length w ≡ 5 → ⊥) → (length w ≡ 6 → ⊥) → (length w ≡ 7 → ⊥) → (length w ≡ 8 → ⊥) → (length w ≡ 10 → ⊥) → 0 ≡ position 1 keyword_bytes w
keyword_of-none w f1 f2 f3 f4 f5 f6 f7 f8 f10 =
    no_position_lem keyword_bytes 1 w lengths_right (no_more (length w) (1 ∷ []) (2 ∷ 3 ∷ 4 ∷ 5 ∷ 6 ∷ 7 ∷ 8 ∷ 10 ∷ []) f1 (no_more (length w) (2 ∷ []) (3 ∷ 4 ∷ 5 ∷ 6 ∷ 7 ∷ 8 ∷ 10 ∷ []) f2 (no_more (length w) (3 ∷ []) (4 ∷ 5 ∷ 6 ∷ 7 ∷ 8 ∷ 10 ∷ []) f3 (no_more (length w) (4 ∷ []) (5 ∷ 6 ∷ 7 ∷ 8 ∷ 10 ∷ []) f4 (no_more (length w) (5 ∷ []) (6 ∷ 7 ∷ 8 ∷ 10 ∷ []) f5 (no_more (length w) (6 ∷ []) (7 ∷ 8 ∷ 10 ∷ []) f6 (no_more (length w) (7 ∷ []) (8 ∷ 10 ∷ []) f7 (no_more (length w) (8 ∷ []) (10 ∷ []) f8 (no_more (length w) (10 ∷ []) [] f10 (no_none (length w)))))))))))
