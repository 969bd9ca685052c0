-- Laws of the parsers of one token.
use Rattle.std.specs.Prelude.{Err}
use mathlib.Core.Path.{◌≡◌, refl, sym, ap, subst, ◌∙◌}
use Prim.Native.Nat.{ℕ, ◌+◌, ◌<◌, ◌^◌}
use native.Mathlib.Omega.{arith}
use native.Mathlib.Decide.{dec_lt}
use mathlib.Core.Bool.{Bool, true, false}
use mathlib.Core.List.{List}
use lib.ListN.{length, get_or-eq_default}
use mir.Syntax.{w64}
use mir.Val.{Fits}
use borrow.Author.Tests.{eq-eqb, ne_eqb}
use Rattle.parser.specs.Row.{tokens_in, ended, peek}
use Rattle.parser.specs.Views.{is_kind, is_direction}
use Rattle.parser.specs.Lines.{Parsed, Done, unexpected, one}
use Rattle.tokens.specs.declared.Token.{Token}
use Rattle.parser.proofs.Laws.{length-tokens, inside}

-- an index in the row of a slice has a next one
pub next_fits : (w : List ℕ) (i : ℕ) → i < length (tokens_in w) → length w < 2 ^ 64 → Fits w64 (i + 1)
next_fits w i h g = record { fits = omega (arith, length-tokens w) }

-- no line feed is of another kind
pub kind-ended : (k : ℕ) → k < 13 → is_kind k ended ≡ false
unfolding is_kind
kind-ended k h = ne_eqb 13 k (λ e. omega arith)

-- a token that passes a test which no line feed passes has a next one
pub test_fits : (post : Token → Bool → Type 0) (w : List ℕ) (i : ℕ) (t : Token) (b : Bool) → t ≡ peek (tokens_in w) i → post t b → b ≡ true → ((b : Bool) → post ended b → b ≡ false)
    → length w < 2 ^ 64 → Fits w64 (i + 1)
test_fits post w i t b at says y refuses g = go (dec_lt i (length (tokens_in w)))
  where
    go : Dec (i < length (tokens_in w)) → Fits w64 (i + 1)
    go (yes h) = next_fits w i h g
    go (no h) =
        let past : t ≡ ended = at ∙ get_or-eq_default (tokens_in w) ended (omega arith) in
        let z : true ≡ false = sym y ∙ refuses b (subst (λ (u : Token). post u b) past says) in
        absurd (let o : ◌≡◌ {A = ℕ} 0 1 = cc in omega arith)

module _ (w : List ℕ) (i : ℕ) (t : Token) (at : t ≡ peek (tokens_in w) i) where
  module _ (f : Token → Bool) (b : Bool) (test : b ≡ f t) where
    pub one_fits : f ended ≡ false → b ≡ true → length w < 2 ^ 64 → Fits w64 (i + 1)
    one_fits e y g = next_fits w i (inside f (tokens_in w) i e (ap f (sym at) ∙ sym test ∙ y)) g

    pub one_yes : b ≡ true → Done (i + 1) 1 ≡ one f (tokens_in w) i
    unfolding one
    one_yes y = let q : f (peek (tokens_in w) i) ≡ true = ap f (sym at) ∙ sym test ∙ y in rw q

    pub one_no : (r : Parsed ℕ) → b ≡ false → r ≡ Err (unexpected t) → r ≡ one f (tokens_in w) i
    unfolding one
    one_no r n e = let q : f (peek (tokens_in w) i) ≡ false = ap f (sym at) ∙ sym test ∙ n in rw (q, ← at) e

  module _ (b : Bool) (y : b ≡ true) (g : length w < 2 ^ 64) where
    pub direction_fits : b ≡ is_direction t → Fits w64 (i + 1)
    unfolding is_direction
    direction_fits e = one_fits is_direction b e refl y g

  pub sign_fits : (k : ℕ) → t.kind ≡ k → k < 13 → length w < 2 ^ 64 → Fits w64 (i + 1)
  unfolding is_kind
  sign_fits k e h g = one_fits (is_kind k) true (sym (eq-eqb t.kind k e)) (kind-ended k h) refl g

-- a token of a kind below a line feed's has a next one
pub before_feed : (w : List ℕ) (i : ℕ) → (peek (tokens_in w) i).kind < 13 → length w < 2 ^ 64 → Fits w64 (i + 1)
before_feed w i h g = sign_fits w i (peek (tokens_in w) i) refl (peek (tokens_in w) i).kind refl h g

-- the tokens of a row are fewer than its words
pub ruleset few = (length-tokens)
