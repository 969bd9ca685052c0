-- The first index with a number is the position of the first state with a name, and that state's mark says whether the name is
-- final.
use Prim.Native.Nat.{ℕ, suc, ◌+◌, ◌≤◌, ◌<◌}
use native.Mathlib.Omega.{arith}
use mathlib.Core.Bool.{Bool, true, false, cond}
use mathlib.Core.List.{List, [], ◌∷◌}
use mathlib.Core.Path.{◌≡◌, refl, sym, ap, ◌∙◌}
use borrow.Author.Tests.{lt-ltb, ltb-true, ltb-false, le-ltb}
use lib.Dec.{eqb, ltb}
use lib.ListN.{length, get_or}
use Rattle.std.specs.Prelude.{position, find, Option, Some, None, option_map, unwrap_or}
use Rattle.std.specs.List.{position_or_len}
use Rattle.diag.proofs.Cases.{by_test_lem}
use Rattle.lexer.specs.Text.{same}
use Rattle.language.specs.Content.{StateContent}
use Rattle.running.specs.Step.{is_final}
use Rattle.runner_names.specs.Rows.{first_with}

-- ---- a position, a member at a time

module _ {A : Type 0} (p : A → Bool) (a : A) (l : List A) where
  position_yes : p a ≡ true → position p (a ∷ l) ≡ Some 0
  position_yes e = rw (e, lt-ltb 0 (suc (length l)) (omega arith))

  position_no : p a ≡ false → position p (a ∷ l) ≡ option_map suc (position p l)
  position_no e =
      let n = position_or_len p l in
      by_test_lem (ltb n (length l))
      (λ t. let h : n < length l = ltb-true n (length l) t in let z : 1 + n ≡ suc n = omega arith in rw (e, z, lt-ltb (suc n) (suc (length l)) (omega arith), t))
      (λ t. let h : length l ≤ n = ltb-false n (length l) t in let z : 1 + n ≡ suc n = omega arith in rw (e, z, le-ltb (suc n) (suc (length l)) (omega arith), t))

-- ---- the first index with a number

module _ (f : ℕ → ℕ) (k : ℕ) {A : Type 0} (p : A → Bool) where
  -- a position behind i others, 4294967295 if there is none
  behind : ℕ → Option ℕ → ℕ
  behind i o = unwrap_or (option_map (λ j. i + j) o) 4294967295

  behind_suc : (i : ℕ) (o : Option ℕ) → behind (suc i) o ≡ behind i (option_map suc o)
  unfolding behind
  behind_suc i None = refl
  behind_suc i (Some j) = omega arith

  first_behind : (i : ℕ) (l : List A) → ((j : ℕ) (d : A) → j < length l → eqb k (f (i + j)) ≡ p (get_or l j d)) → first_with f k i (length l) ≡ behind i (position p l)
  unfolding first_with behind
  first_behind i [] h = refl
  first_behind i (a ∷ l) h =
      let z : i + 0 ≡ i = omega arith in
      let e : eqb k (f i) ≡ p a = ap (λ x. eqb k (f x)) (sym z) ∙ h 0 a (omega arith) in
      let r : first_with f k (suc i) (length l) ≡ behind (suc i) (position p l) =
      first_behind (suc i) l (λ j d b. let y : suc i + j ≡ i + suc j = omega arith in ap (λ x. eqb k (f x)) y ∙ h (suc j) d (omega arith)) in
      by_test_lem (p a)
      (λ t. ap (λ b. elim b [ true ↦ i | false ↦ first_with f k (suc i) (length l) ]) (e ∙ t) ∙ sym z ∙ ap (behind i) (sym (position_yes p a l t)))
      (λ t. ap (λ b. elim b [ true ↦ i | false ↦ first_with f k (suc i) (length l) ]) (e ∙ t) ∙ r ∙ behind_suc i (position p l) ∙ ap (behind i) (sym (position_no p a l t)))

  behind_none : (o : Option ℕ) → behind 0 o ≡ unwrap_or o 4294967295
  unfolding behind
  behind_none None = refl
  behind_none (Some j) = omega arith

  -- the first index at which f is k is the position of the first member that passes
  pub first_position : (l : List A) → ((j : ℕ) (d : A) → j < length l → eqb k (f j) ≡ p (get_or l j d)) → first_with f k 0 (length l) ≡ unwrap_or (position p l) 4294967295
  first_position l h =
      first_behind 0 l (λ j d b. let y : 0 + j ≡ j = omega arith in ap (λ x. eqb k (f x)) y ∙ h j d b) ∙ behind_none (position p l)

-- ---- whether it is final

-- what a test says of a position, false if there is none
abbrev pub marked : (ℕ → Bool) → Option ℕ → Bool
marked mark None = false
marked mark (Some i) = mark i

marked_suc : (mark : ℕ → Bool) (o : Option ℕ) → marked mark (option_map suc o) ≡ marked (λ i. mark (suc i)) o
marked_suc mark None = refl
marked_suc mark (Some i) = refl

-- whether a state is final that is there or not
abbrev final_or : Option StateContent → Bool
final_or o = elim o [ Some s ↦ s.final | None ↦ false ]

pub final_marked : (q : List ℕ) (l : List StateContent) (mark : ℕ → Bool) → ((i : ℕ) (d : StateContent) → i < length l → (get_or l i d).final ≡ mark i)
    → marked mark (position (λ s. same q s.name) l) ≡ is_final l q
unfolding is_final
final_marked q [] mark h = refl
final_marked q (s ∷ l) mark h =
    let p : StateContent → Bool = λ s. same q s.name in
    by_test_lem (p s)
    (λ t. ap (marked mark) (position_yes p s l t) ∙ sym (h 0 s (omega arith)) ∙ ap final_or (sym (ap (λ b. cond b (Some s) (find p l)) t)))
    (λ t.
    ap (marked mark) (position_no p s l t) ∙ marked_suc mark (position p l) ∙ final_marked q l (λ i. mark (suc i)) (λ i d b. h (suc i) d (omega arith))
    ∙ ap final_or (sym (ap (λ b. cond b (Some s) (find p l)) t)))
