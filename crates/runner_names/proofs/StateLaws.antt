-- The states are gone through from the last on, so that at each number the first state that has it is put last.
use Prim.Native.Nat.{ℕ, suc, ◌-◌, ◌*◌, ◌≤◌, ◌<◌}
use native.Mathlib.Omega.{arith}
use mathlib.Core.Bool.{Bool, true, false}
use mathlib.Core.List.{List}
use mathlib.Core.Path.{◌≡◌, sym, ap, subst, ◌∙◌}
use borrow.Author.Tests.{eqb-true, eqb-false}
use lib.Dec.{eqb}
use lib.ListN.{length, get_or, set, length-set, replicate, length-replicate}
use lib.Seq.{get_or-set_same, get_or-set_other}
use Rattle.std.proofs.lemmas.List.{get_or-replicate}
use Rattle.diag.proofs.Cases.{by_test_lem}
use Rattle.lexer.specs.Tokens.{Span}
use Rattle.language.specs.Agreement.{place_at}
use Rattle.runner_names.specs.Rows.{state_number, HaveNumbers, first_with, FirstStates}

module _ (sheet numbers : List ℕ) (n : ℕ) where
  -- no state yet
  pub states_none : (size : ℕ) (row : List ℕ) → row ≡ replicate size 4294967295 → FirstStates sheet numbers n n row
  unfolding first_with
  states_none size row e = record {
    first = λ k h.
        let z : n - n ≡ 0 = omega arith in
        let low : k < size = omega (arith, ap length e, length-replicate {A = ℕ} size 4294967295) in
        ap (λ l. get_or l k 0) e ∙ get_or-replicate size k 4294967295 0 low ∙ ap (first_with (state_number sheet numbers) k n) (sym z);
  }

  -- the state before number i is put
  module _ (i : ℕ) (row : List ℕ) (size : ℕ) (have : HaveNumbers sheet numbers n size) (room : length row ≡ size) (low : 0 < i) (most : i ≤ n) where
    abbrev f : ℕ → ℕ
    f = state_number sheet numbers

    first_more : (k : ℕ) (b : Bool) → eqb k (f (i - 1)) ≡ b
        → first_with f k (i - 1) (n - (i - 1)) ≡ elim b [ true ↦ i - 1 | false ↦ first_with f k i (n - i) ]
    unfolding first_with
    first_more k b e =
        let z : n - (i - 1) ≡ suc (n - i) = omega arith in
        let y : suc (i - 1) ≡ i = omega arith in
        ap (first_with f k (i - 1)) z
        ∙ ap (λ (b : Bool). elim b [ true ↦ i - 1 | false ↦ first_with f k (suc (i - 1)) (n - i) ]) e
        ∙ ap (λ (m : ℕ). elim b [ true ↦ i - 1 | false ↦ first_with f k m (n - i) ]) y

    put : FirstStates sheet numbers i n row → FirstStates sheet numbers (i - 1) n (set row (f (i - 1)) (i - 1))
    put done = record {
      first = λ k h.
          let inside : k < length row = omega (arith, h, length-set row (f (i - 1)) (i - 1)) in
          by_test_lem (eqb k (f (i - 1)))
          (λ e.
          let z : k ≡ f (i - 1) = eqb-true k (f (i - 1)) e in
          ap (λ m. get_or (set row (f (i - 1)) (i - 1)) m 0) z ∙ get_or-set_same row (f (i - 1)) (i - 1) 0 (omega (arith, have.low (i - 1) (omega arith)))
          ∙ sym (first_more k true e))
          (λ e. get_or-set_other row (f (i - 1)) k (i - 1) 0 (eqb-false k (f (i - 1)) e) ∙ done.first k inside ∙ sym (first_more k false e));
    }

    pub states_more : (name : Span) → name ≡ place_at sheet (3 * (i - 1)) → FirstStates sheet numbers i n row
        → FirstStates sheet numbers (i - 1) n (set row (get_or numbers name.start 0) (i - 1))
    states_more name e done = subst (λ (p : Span). FirstStates sheet numbers (i - 1) n (set row (get_or numbers p.start 0) (i - 1))) (sym e) (put done)
