-- Laws of the tokens in a row's front, and of the indices of a line.
use mathlib.Core.Path.{◌≡◌, sym, ap, ◌∙◌}
use mathlib.Core.Bool.{Bool, true, false}
use mathlib.Core.List.{List, [], ◌∷◌}
use Prim.Native.Nat.{ℕ, ◌+◌, ◌-◌, ◌*◌, ◌≤◌, ◌<◌}
use native.Mathlib.Omega.{arith}
use native.Mathlib.Numerals.{add-one}
use native.Mathlib.Decide.{dec_lt}
use borrow.Author.Tests.{eq-eqb, ne_eqb}
use lib.ListN.{length, take, drop, drop_of_length-le, length-take}
use lib.Seq.{take-take, drop-cons}
use Rattle.tokens.specs.declared.Token.{Token}
use Rattle.parser.specs.Row.{tokens_in, peek, ended}
use Rattle.parser.specs.Views.{is_state}
use Rattle.assembler.specs.Rows.{rows}
use Rattle.assembler.proofs.Rows.{row_past}
use Rattle.assembler.proofs.RowWords.{part-tokens}
use Rattle.infer.specs.Page.{indices_from, indices_in}

-- the tokens stand in the row's front
pub rows_front : (n b : ℕ) (w : List ℕ) → 4 * n ≤ b → b ≤ length w → rows n (take b w) ≡ rows n w
rows_front n b w h g =
    let v : List ℕ = take b w in
    let e : 4 * n - 4 * 0 ≡ 4 * n = omega arith in
    sym (part-tokens n 0 v (omega (arith, length-take b w)) (omega arith)) ∙ ap (λ (m : ℕ). tokens_in (take m v)) e ∙ ap tokens_in (take-take (4 * n) b w h)
    ∙ ap (λ (m : ℕ). tokens_in (take m w)) (sym e) ∙ part-tokens n 0 w (omega arith) (omega arith)

-- ---- the indices of a line
abbrev pub indices_at : List Token → ℕ → List ℕ
indices_at ts i = indices_from i (drop i ts)

pub indices_start : (ts : List Token) (f : ℕ) → indices_at ts (f + 1) ≡ indices_in ts f
unfolding indices_in
indices_start ts f = ap (indices_at ts) (add-one f)

pub indices_stop : (ts : List Token) (i : ℕ) → i < length ts → (peek ts i).kind ≡ 13 → indices_at ts i ≡ []
unfolding indices_from
indices_stop ts i h e = ap (indices_from i) (drop-cons ts i ended h) ∙ rw (eq-eqb (peek ts i).kind 13 e, indices_from)

pub indices_on : (ts : List Token) (i : ℕ) → i < length ts → ((peek ts i).kind ≡ 13 → ⊥) → indices_at ts i ≡ i ∷ indices_at ts (i + 1)
unfolding indices_from
indices_on ts i h e = ap (indices_from i) (drop-cons ts i ended h) ∙ rw (ne_eqb (peek ts i).kind 13 e, indices_from, add-one i)

pub indices_end : (ts : List Token) (i : ℕ) → length ts ≤ i → indices_at ts i ≡ []
unfolding indices_from
indices_end ts i h = ap (indices_from i) (drop_of_length-le ts {i = i} h)

-- past the last token no state stands
pub state-inside : (n : ℕ) (w : List ℕ) (x : ℕ) (t : Token) (b : Bool) → t ≡ peek (rows n w) x → b ≡ is_state t → b ≡ true → x < n
unfolding is_state
state-inside n w x t b e f g = go (dec_lt x n)
  where
    go : Dec (x < n) → x < n
    go (yes h) = h
    go (no h) =
        let p : t ≡ ended = e ∙ sym (row_past n w x (omega arith)) in
        let q : is_state t ≡ false = ap is_state p in
        absurd (let z : ◌≡◌ {A = Bool} true false = sym g ∙ f ∙ q in let n : ◌≡◌ {A = ℕ} 0 1 = cc in omega arith)
