-- A comma behind a token: written if one stands there, and then the state of `fill`'s loop is the one behind it.
use mathlib.Core.Path.{◌≡◌, refl, sym, ap, subst, ◌∙◌}
use mathlib.Core.Bool.{cond}
use mathlib.Core.List.{List, [], ◌∷◌}
use Prim.Native.Nat.{ℕ, ◌+◌, ◌-◌, ◌*◌, ◌≤◌, ◌<◌}
use native.Mathlib.Omega.{arith}
use lib.Dec.{eqb, leb}
use lib.ListN.{length, get_or, drop, get_or-eq_default}
use lib.Seq.{sets}
use mir.Syntax.{w32, w64}
use mir.Val.{Fits}
use borrow.Author.Tests.{eqb-true, eq-eqb, ne_eqb, leb-true, leb-false}
use Rattle.chars.specs.Utf8.{decode}
use Rattle.lexer.specs.Places.{Found, Tok, piece}
use Rattle.lexer.specs.Quick.{lead_of, QuickAt, quick_value, comma_words, WordPut}
use Rattle.diag.proofs.Cases.{by_test_lem as by_test}
use Rattle.lexer.proofs.Leads.{ascii_at, quick_lead}
use Rattle.lexer.proofs.Writes.{State, word_end_in, token_falls, state_token, state_quick}

-- ---- `comma`
module _ (t : List ℕ) (at : ℕ) where
  past : length t ≤ at → comma_words t at ≡ []
  unfolding comma_words
  past h = ap (λ (c : ℕ). cond (eqb c 0x2C) (8 ∷ at ∷ (at + 1) ∷ 0x2C ∷ []) []) (get_or-eq_default t 0 {n = at} h)

  other : (c : ℕ) → c ≡ get_or t at 0 → (c ≡ 0x2C → ⊥) → comma_words t at ≡ []
  unfolding comma_words
  other c e f = rw (← e, ne_eqb c 0x2C f)

  here : (c : ℕ) → c ≡ get_or t at 0 → c ≡ 0x2C → comma_words t at ≡ 8 ∷ at ∷ (at + 1) ∷ 0x2C ∷ []
  unfolding comma_words
  here c e f = rw (← e, eq-eqb c 0x2C f)

  module _ (w : List ℕ) (n : ℕ) where
    none-count : comma_words t at ≡ [] → 4 * 0 ≡ length (comma_words t at)
    none-count e = rw e

    none-words : comma_words t at ≡ [] → w ≡ sets w (4 * n) (comma_words t at)
    none-words e = rw e

    pub past_count : length t ≤ at → 4 * 0 ≡ length (comma_words t at)
    past_count h = none-count (past h)

    pub past_words : length t ≤ at → w ≡ sets w (4 * n) (comma_words t at)
    past_words h = none-words (past h)

    module _ (c : ℕ) (e : c ≡ get_or t at 0) where
      pub other-count : (c ≡ 0x2C → ⊥) → 4 * 0 ≡ length (comma_words t at)
      other-count f = none-count (other c e f)

      pub other_words_lem : (c ≡ 0x2C → ⊥) → w ≡ sets w (4 * n) (comma_words t at)
      other_words_lem f = none-words (other c e f)

      pub here_count : c ≡ 0x2C → 4 * 1 ≡ length (comma_words t at)
      here_count f = rw (here c e f)

      pub here_words : c ≡ 0x2C → (w' : List ℕ) → w' ≡ sets w (4 * n) (8 ∷ at ∷ (at + 1) ∷ 0x2C ∷ []) → w' ≡ sets w (4 * n) (comma_words t at)
      here_words f w' q = q ∙ ap (sets w (4 * n)) (sym (here c e f))

  inside : get_or t at 0 ≡ 0x2C → at < length t
  inside e = by_test (leb (length t) at)
      (λ p. let z : ◌≡◌ {A = ℕ} 0 0x2C = sym (get_or-eq_default t 0 {n = at} (leb-true (length t) at p)) ∙ e in absurd (omega arith))
      (λ p. leb-false (length t) at p)

  -- what stands there is the comma's token
  comma-piece : get_or t at 0 ≡ 0x2C → QuickAt t at 8
  unfolding lead_of
  comma-piece e = quick_lead t at 8 (ascii_at t at 0x2C 0x2C 8 (inside e) (sym e) (omega arith) refl refl) (omega arith) (omega arith)

  module _ (w₀ w : List ℕ) (n : ℕ) (st : State t w₀ w at n) (r : ℕ) (w' : List ℕ) (k : 4 * r ≡ length (comma_words t at)) (q : w' ≡ sets w (4 * n) (comma_words t at)) where
    pub state-comma : State t w₀ w' (at + r) (n + r)
    unfolding comma_words quick_value
    state-comma = by_test (eqb (get_or t at 0) 0x2C)
        (λ p.
        let c : get_or t at 0 ≡ 0x2C = eqb-true (get_or t at 0) 0x2C p in
        let four : 4 * r ≡ 4 = rw p at k in
        let one : 1 ≡ r = omega arith in
        let words : w' ≡ sets w (4 * n) (8 ∷ at ∷ (at + 1) ∷ 0x2C ∷ []) = rw p at q in
        subst (λ (i : ℕ). State t w₀ w' (at + i) (n + i)) one
        (state_quick t w₀ w at n 8 st (comma-piece c) (omega arith) 0x2C 0x2C w' (sym c) refl words))
        (λ p.
        let zero : 4 * r ≡ 0 = rw p at k in
        let here : at ≡ at + r = omega arith in
        let same : n ≡ n + r = omega arith in
        let words : w' ≡ w = rw p at q in
        subst (λ (i : ℕ). State t w₀ w' i (n + r)) here (subst (λ (i : ℕ). State t w₀ w' at i) same (subst (λ (v : List ℕ). State t w₀ v at n) (sym words) st)))

-- ---- a token and the comma behind it
module _ (t w₀ w : List ℕ) (at n : ℕ) (r : Found) (st : State t w₀ w at n) (s : r ≡ piece at (decode (drop at t))) (k e v m : ℕ) (p : r ≡ Tok k e v m) where
  module _ (w' : List ℕ) (q : w' ≡ sets w (4 * n) (k ∷ at ∷ e ∷ v ∷ [])) where
    after : State t w₀ w' m (n + 1)
    after = state_token t w₀ w at n r st s k e v m p w' q

    pub comma_room : 4 * length t + 4 ≤ length w₀ → m < length t → 4 * (n + 1) + 4 ≤ length w'
    comma_room h l = omega (arith, after.few, after.long)

    pub place_fits : (j : ℕ) → length t ≤ 0x400000 → j ≤ 1 → Fits w64 (m + j)
    place_fits j h l = omega (arith, after.place)

    pub state_both : (j : ℕ) (w'' : List ℕ) → 4 * j ≡ length (comma_words t m) → w'' ≡ sets w' (4 * (n + 1)) (comma_words t m) → State t w₀ w'' (m + j) (n + 1 + j)
    state_both j w'' c g = state-comma t m w₀ w' (n + 1) after j w'' c g

  pub both_falls : (j : ℕ) → length t - (m + j) < length t - at
  both_falls j = omega (arith, token_falls t w₀ w at n r st s k e v m p)

-- ---- a word by its end, and the comma behind it
module _ (t : List ℕ) (at e v : ℕ) (few : length t ≤ 0x400000) (s : Tok 0 e v e ≡ piece at (decode (drop at t))) where
  pub word_end_fits : Fits w32 e
  word_end_fits = omega (arith, (word_end_in t at e v s).1)

  pub word-place_fits : (j : ℕ) → j ≤ 1 → Fits w64 (e + j)
  word-place_fits j h = omega (arith, (word_end_in t at e v s).1)

module _ (t w₀ w : List ℕ) (at n : ℕ) (st : State t w₀ w at n) (w'' : List ℕ) (at' n' : ℕ) (p : WordPut t at n w w'' at' n') where
  pub put_falls : length t - at' < length t - at
  put_falls = omega (arith, p.place, both_falls t w₀ w at n (Tok 0 p.end p.value p.end) st p.token 0 p.end p.value p.end refl p.commas)

  pub state-put : State t w₀ w'' at' n'
  state-put =
      subst (λ (i : ℕ). State t w₀ w'' i n') (sym p.place) (subst (λ (i : ℕ). State t w₀ w'' (p.end + p.commas) i) (sym p.count)
      (state_both t w₀ w at n (Tok 0 p.end p.value p.end) st p.token 0 p.end p.value p.end refl
      (sets w (4 * n) (0 ∷ at ∷ p.end ∷ p.value ∷ [])) refl p.commas w'' p.comma p.words))

-- what a word adds to a row and a place fits
pub ruleset fits = (word_end_fits, word-place_fits)
