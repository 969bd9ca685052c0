-- Symbols and what a record reads, tape by tape: one that differs is enough, and with the last one they are all the same.
use Rattle.std.proofs.Common.{◌≡◌, ℕ, zero, suc, ◌<◌, ◌≤◌, Bool, true, false, ◌&&◌, List, eqb, nat_eq, refl, sym, ◌∙◌, arith, eq-eqb, ne_eqb, eqb-true}
use mathlib.Core.Bool.{false≢true}
use Rattle.language.proofs.Every.{by_test}
use Rattle.lexer.specs.Text.{same}
use Rattle.sheet_view.specs.Rules.{read_of}
use Rattle.runner_tapes.specs.declared.Symbols.{Symbols}
use Rattle.runner_tapes.specs.Shown.{symbols_of}
use Rattle.runner_rules.specs.Search.{reads_of}

eqb_swap : (a b : ℕ) → eqb a b ≡ eqb b a
eqb_swap a b = by_test (eqb b a)
    (λ e. eq-eqb a b (sym (eqb-true b a e)) ∙ sym e)
    (λ e. ne_eqb a b (λ q. false≢true (sym e ∙ eq-eqb b a (sym q))) ∙ sym e)

and_true : (b : Bool) → (b && true) ≡ b
and_true true = refl
and_true false = refl

module _ (n : ℕ) (s : Symbols) (ws : List ℕ) where
  pub first_other : 1 ≤ n → (read_of ws 0 ≡ s.first → ⊥) → false ≡ same (symbols_of n s) (reads_of n ws)
  unfolding symbols_of
  first_other h d = go n h
    where
      go : (n : ℕ) → 1 ≤ n → false ≡ same (symbols_of n s) (reads_of n ws)
      go zero h = absurd (omega arith)
      go (suc n) h = rw (ne_eqb s.first (read_of ws 0) (λ e. d (sym e))) refl

  module _ (first : read_of ws 0 ≡ s.first) where
    is_first : eqb s.first (read_of ws 0) ≡ true
    is_first = eq-eqb _ _ (sym first)

    pub one_tape : 1 ≤ n → n < 2 → true ≡ same (symbols_of n s) (reads_of n ws)
    unfolding symbols_of
    one_tape h k = go n h k
      where
        go : (n : ℕ) → 1 ≤ n → n < 2 → true ≡ same (symbols_of n s) (reads_of n ws)
        go zero h k = absurd (omega arith)
        go (suc zero) h k = rw is_first refl
        go (suc (suc n)) h k = absurd (omega arith)

    pub second_other : 2 ≤ n → (read_of ws 1 ≡ s.second → ⊥) → false ≡ same (symbols_of n s) (reads_of n ws)
    unfolding symbols_of
    second_other h d = go n h
      where
        go : (n : ℕ) → 2 ≤ n → false ≡ same (symbols_of n s) (reads_of n ws)
        go zero h = absurd (omega arith)
        go (suc zero) h = absurd (omega arith)
        go (suc (suc n)) h = rw (is_first, ne_eqb s.second (read_of ws 1) (λ e. d (sym e))) refl

    module _ (second : read_of ws 1 ≡ s.second) where
      is_second : eqb s.second (read_of ws 1) ≡ true
      is_second = eq-eqb _ _ (sym second)

      pub two_tapes : 2 ≤ n → n < 3 → true ≡ same (symbols_of n s) (reads_of n ws)
      unfolding symbols_of
      two_tapes h k = go n h k
        where
          go : (n : ℕ) → 2 ≤ n → n < 3 → true ≡ same (symbols_of n s) (reads_of n ws)
          go zero h k = absurd (omega arith)
          go (suc zero) h k = absurd (omega arith)
          go (suc (suc zero)) h k = rw (is_first, is_second) refl
          go (suc (suc (suc n))) h k = absurd (omega arith)

      pub three_tapes : 3 ≤ n → n ≤ 3 → nat_eq (read_of ws 2) s.third ≡ same (symbols_of n s) (reads_of n ws)
      unfolding symbols_of
      three_tapes h k = go n h k
        where
          last : nat_eq (read_of ws 2) s.third ≡ (eqb s.third (read_of ws 2) && true)
          last = eqb_swap (read_of ws 2) s.third ∙ sym (and_true (eqb s.third (read_of ws 2)))

          go : (n : ℕ) → 3 ≤ n → n ≤ 3 → nat_eq (read_of ws 2) s.third ≡ same (symbols_of n s) (reads_of n ws)
          go zero h k = absurd (omega arith)
          go (suc zero) h k = absurd (omega arith)
          go (suc (suc zero)) h k = absurd (omega arith)
          go (suc (suc (suc zero))) h k = rw (is_first, is_second) last
          go (suc (suc (suc (suc n)))) h k = absurd (omega arith)

pub ruleset reads = (first_other, one_tape, second_other, two_tapes, three_tapes)
