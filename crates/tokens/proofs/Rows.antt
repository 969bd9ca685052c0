-- Laws of the tokens in a row of words.
use mathlib.Core.Path.{◌≡◌, refl, sym, ◌∙◌}
use Prim.Native.Nat.{ℕ, zero, suc, ◌+◌, ◌*◌, ◌/◌, ◌≤◌, ◌<◌}
use native.Mathlib.Omega.{arith}
use mathlib.Core.List.{List, [], ◌∷◌}
use lib.ListN.{length, length-take, get_or-eq_default}
use lib.Seq.{get_or-take}
use Rattle.tokens.specs.declared.Token.{Token}
use Rattle.tokens.specs.View.{token_in}
use Rattle.tokens.specs.Row.{tokens_in, rows, ended, peek}

pub length-tokens : (w : List ℕ) → (4 * length (tokens_in w) ≤ length w) × (length w < 4 * length (tokens_in w) + 4)
unfolding tokens_in
length-tokens [] = (omega arith, omega arith)
length-tokens (a ∷ []) = (omega arith, omega arith)
length-tokens (a ∷ b ∷ []) = (omega arith, omega arith)
length-tokens (a ∷ b ∷ c ∷ []) = (omega arith, omega arith)
length-tokens (k ∷ s ∷ e ∷ v ∷ r) = let ih = length-tokens r in (omega arith, omega arith)

peek-words : (w : List ℕ) (i : ℕ) → i < length w / 4 → token_in w i ≡ peek (tokens_in w) i
unfolding tokens_in
peek-words w i h = go w i (omega arith)
  where
    go : (w : List ℕ) (i : ℕ) → 4 * i + 3 < length w → token_in w i ≡ peek (tokens_in w) i
    go [] i h = absurd (omega arith)
    go (a ∷ []) i h = absurd (omega arith)
    go (a ∷ b ∷ []) i h = absurd (omega arith)
    go (a ∷ b ∷ c ∷ []) i h = absurd (omega arith)
    go (k ∷ s ∷ e ∷ v ∷ r) zero h = refl
    go (k ∷ s ∷ e ∷ v ∷ r) (suc i) h =
        let q : (n : ℕ) → 4 * suc i + n ≡ suc (suc (suc (suc (4 * i + n)))) = λ n. omega arith in
        let q₀ : 4 * suc i ≡ suc (suc (suc (suc (4 * i)))) = omega arith in
        rw (q 1, q 2, q 3, q₀) (go r i (omega arith))

pub peek-read : (w : List ℕ) (i : ℕ) (t : Token) → t ≡ token_in w i → i < length w / 4 → t ≡ peek (tokens_in w) i
peek-read w i t e h = e ∙ peek-words w i h

pub peek_past : (w : List ℕ) (i : ℕ) → length w / 4 ≤ i → ended ≡ peek (tokens_in w) i
peek_past w i h = sym (get_or-eq_default (tokens_in w) ended (omega (arith, length-tokens w)))

-- ---- the first tokens
pub length-rows : (n : ℕ) (w : List ℕ) → 4 * n ≤ length w → length (rows n w) ≡ n
length-rows n w h = omega (arith, length-tokens w, length-take n (tokens_in w))

pub row_read : (n : ℕ) (w : List ℕ) (i : ℕ) (t : Token) → 4 * n ≤ length w → i < n → t ≡ token_in w i → t ≡ peek (rows n w) i
row_read n w i t h l e = peek-read w i t e (omega arith) ∙ sym (get_or-take n (tokens_in w) i ended l)

pub row_past : (n : ℕ) (w : List ℕ) (i : ℕ) → n ≤ i → ended ≡ peek (rows n w) i
row_past n w i l = sym (get_or-eq_default (rows n w) ended {n = i} (omega (arith, length-take n (tokens_in w))))
