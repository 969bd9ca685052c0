-- The two words of a number: what is stored of it is what is said of it afterwards, and nothing else is said of the others.
use Rattle.std.proofs.Common.{◌≡◌, ℕ, ◌+◌, ◌*◌, ◌/◌, ◌%◌, ◌<◌, Bool, true, false, List, length, get_or, set, eqb, refl, sym, ap, ap₂, ◌∙◌, arith, get_or-set_same, get_or-set_other, length-set, eq-eqb, ne_eqb, eqb-true}
use mathlib.Core.Bool.{false≢true}
use Rattle.language.proofs.Every.{by_test}
use mir.Val.{bool_byte}
use Rattle.runner_names.specs.Numbers.{final_at}
use Rattle.runner_rules.specs.declared.firsts.First.{First}
use Rattle.runner_rules.specs.declared.firsts.First.TheVariants.{Final, NoRule, At}
use Rattle.runner_rules.specs.Firsts.{nowhere, first_in, first_at, is_no_rule, Says, before_rules, SaysStates}

-- ---- two words

pub says_at : (low high : ℕ) → (high ≡ nowhere → ⊥) → At (low + 4294967296 * high) ≡ first_in low high
unfolding first_in
says_at low high n = rw (first_in, ne_eqb high nowhere n)

pub says_final : (low high : ℕ) → high ≡ nowhere → low ≡ 1 → Final ≡ first_in low high
unfolding first_in
says_final low high e f = rw (first_in, eq-eqb high nowhere e, eq-eqb low 1 f)

pub says_no_rule : (low high : ℕ) → high ≡ nowhere → (low ≡ 1 → ⊥) → NoRule ≡ first_in low high
unfolding first_in
says_no_rule low high e n = rw (first_in, eq-eqb high nowhere e, ne_eqb low 1 n)

pub ruleset says = (says_at, says_final, says_no_rule)

-- that there is no rule, by the test
pub no_rule : (f : First) → is_no_rule f ≡ true → f ≡ NoRule
no_rule NoRule e = refl
no_rule Final e = absurd (false≢true e)
no_rule (At i) e = absurd (false≢true e)

pub other_than_no_rule : (f : First) → is_no_rule f ≡ false → f ≡ NoRule → ⊥
other_than_no_rule f e q = false≢true (sym e ∙ ap is_no_rule q)

-- a mark in the low word
says_state : (b : Bool) → first_in (bool_byte b) nowhere ≡ before_rules b
unfolding first_in
says_state true = refl
says_state false = refl

-- a place in both
pub says_place : (at : ℕ) → at < 4294967295 * 4294967296 → first_in (at % 4294967296) (at / 4294967296) ≡ At at
unfolding first_in
says_place at low =
    let high : at / 4294967296 < nowhere = omega arith in
    rw (first_in, ne_eqb (at / 4294967296) nowhere (λ e. omega (arith, high, e))) (ap At (omega arith))

-- ---- stored

module _ (row : List ℕ) (k low high : ℕ) (room : 2 * k + 1 < length row) where
  abbrev stored : List ℕ
  stored = set (set row (2 * k) low) (2 * k + 1) high

  pub stored_says : Says k (first_in low high) row stored
  stored_says = record {
    here = ap₂ first_in
        (get_or-set_other (set row (2 * k) low) (2 * k + 1) (2 * k) high 0 (λ e. omega (arith, e))
        ∙ get_or-set_same row (2 * k) low 0 (omega (arith, room)))
        (get_or-set_same (set row (2 * k) low) (2 * k + 1) high 0 (omega (arith, room, length-set row (2 * k) low)));
    others = λ i n. ap₂ first_in (word (2 * i) (λ e. n (omega (arith, e))) (λ e. omega (arith, e))) (word (2 * i + 1) (λ e. omega (arith, e)) (λ e. n (omega (arith, e))));
  }
    where
      word : (j : ℕ) → (j ≡ 2 * k → ⊥) → (j ≡ 2 * k + 1 → ⊥) → get_or stored j 0 ≡ get_or row j 0
      word j n m = get_or-set_other (set row (2 * k) low) (2 * k + 1) j high 0 m ∙ get_or-set_other row (2 * k) j low 0 n

-- ---- states

-- one more number
module _ (sheet positions row new : List ℕ) (n low : ℕ) (b : Bool) (is : b ≡ final_at sheet (get_or positions n 0)) (low_is : low ≡ bool_byte b) where
  pub states_next : SaysStates sheet positions row n → Says n (first_in low nowhere) row new → SaysStates sheet positions new (n + 1)
  states_next h says k room = by_test (eqb k n)
      (λ e.
      let q : k ≡ n = eqb-true k n e in
      let f : first_in low nowhere ≡ before_rules b = ap (λ l. first_in l nowhere) low_is ∙ says_state b in
      ap (first_at new) q ∙ says.here ∙ f ∙ ap before_rules (is ∙ ap (λ i. final_at sheet (get_or positions i 0)) (sym q)))
      (λ e.
      let q : k ≡ n → ⊥ = λ d. false≢true (sym e ∙ eq-eqb k n d) in
      says.others k q ∙ h k (omega (arith, room, q)))
