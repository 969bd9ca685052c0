-- The value of a string from a character on: what the character gives stands before the value of what follows.
use mathlib.Core.Path.{◌≡◌, refl, ap, ◌∙◌}
use Prim.Native.Nat.{ℕ}
use mathlib.Core.Bool.{Bool, true, false, false≢true}
use mathlib.Core.List.{List, [], ◌∷◌, ◌++◌}
use lib.Dec.{eqb}
use borrow.Author.Tests.{ne_eqb}
use Rattle.std.specs.Prelude.{Option, Some, None}
use Rattle.lexer.specs.Tokens.{escape, Inner, ends, breaks, escapes, stands, inner_of}
use Rattle.lexer.specs.Tokens.{Inside, closed, unclosed, put, pass, inside, unescape}
use Rattle.language.proofs.Every.{by_test}
use Rattle.runner_input.specs.Given as G
use Rattle.runner_input.specs.Given.{waits, given}

-- codes before what follows
unfoldable pub puts : List ℕ → Inside → Inside
puts [] i = i
puts (c ∷ cs) i = put c (puts cs i)

-- characters, and the quote behind them
unfoldable pub rest : Bool → List ℕ → Inside
rest slash cs = inside slash (cs ++ 0x22 ∷ [])

bare : (c : ℕ) (cs : List ℕ) (k : Inner) → inner_of c ≡ k
    → rest false (c ∷ cs) ≡ elim k [
      | ends ↦ closed [] 1
      | breaks ↦ unclosed
      | escapes ↦ pass (rest true cs)
      | stands ↦ put c (pass (rest false cs))
    ]
unfolding inside rest
bare c cs k e = rw (e, inside)

pub rest_ends : (slash : Bool) (c : ℕ) (cs : List ℕ) → G.ends slash c ≡ true → rest slash (c ∷ cs) ≡ closed [] 1
unfolding inner_of
rest_ends true c cs e = absurd (false≢true e)
rest_ends false c cs e = bare c cs ends (rw (e, inner_of))

pub rest_breaks : (slash : Bool) (c : ℕ) (cs : List ℕ) → c ≡ 10 → rest slash (c ∷ cs) ≡ unclosed
unfolding inner_of inside rest escape
rest_breaks false c cs e = bare c cs breaks (rw e)
rest_breaks true c cs e = rw e

pub rest_goes : (slash : Bool) (c : ℕ) (cs : List ℕ) → G.ends slash c ≡ false → (c ≡ 10 → ⊥)
    → rest slash (c ∷ cs) ≡ puts (given slash c) (pass (rest (waits slash c) cs))
unfolding inner_of inside rest escape given puts
rest_goes false c cs e h =
    by_test (eqb c 0x5C)
    (λ s. bare c cs escapes (rw (e, inner_of) (rw (ne_eqb c 10 h, s))) ∙ rw (s, given))
    (λ s. bare c cs stands (rw (e, inner_of) (rw (ne_eqb c 10 h, s))) ∙ rw (s, given))
rest_goes true c cs e h = go (escape c) refl
  where
    go : (o : Option ℕ) → escape c ≡ o → rest true (c ∷ cs) ≡ puts (given true c) (pass (rest false cs))
    go None p = rw (p, inside, given) (rw (ne_eqb c 10 h))
    go (Some v) p = rw (p, inside, given)

pub rest_none : rest false [] ≡ closed [] 1
unfolding inside rest inner_of
rest_none = refl

pub rest_waits : rest true [] ≡ unclosed
unfolding inside rest escape put pass
rest_waits = refl

-- ---- its value, and that it has one

unfoldable pub value_of : Inside → List ℕ
value_of (closed v k) = v
value_of unclosed = []

unfoldable pub is_closed : Inside → Bool
is_closed (closed v k) = true
is_closed unclosed = false

closed_put : (c : ℕ) (i : Inside) → is_closed (put c i) ≡ is_closed i
unfolding put is_closed
closed_put c (closed v k) = refl
closed_put c unclosed = refl

pub closed_pass : (i : Inside) → is_closed (pass i) ≡ is_closed i
unfolding pass is_closed
closed_pass (closed v k) = refl
closed_pass unclosed = refl

pub closed_puts : (cs : List ℕ) (i : Inside) → is_closed (puts cs i) ≡ is_closed i
unfolding puts
closed_puts [] i = refl
closed_puts (c ∷ cs) i = closed_put c (puts cs i) ∙ closed_puts cs i

value_put : (c : ℕ) (i : Inside) → is_closed i ≡ true → value_of (put c i) ≡ c ∷ value_of i
unfolding put is_closed value_of
value_put c (closed v k) h = refl
value_put c unclosed h = absurd (false≢true h)

pub value_pass : (i : Inside) → value_of (pass i) ≡ value_of i
unfolding pass value_of
value_pass (closed v k) = refl
value_pass unclosed = refl

pub value_puts : (cs : List ℕ) (i : Inside) → is_closed i ≡ true → value_of (puts cs i) ≡ cs ++ value_of i
unfolding puts
value_puts [] i h = refl
value_puts (c ∷ cs) i h = value_put c (puts cs i) (closed_puts cs i ∙ h) ∙ ap (λ l. c ∷ l) (value_puts cs i h)

pub value_whole : (cs : List ℕ) → value_of (rest false cs) ≡ unescape cs
unfolding rest value_of unescape
value_whole cs = go (rest false cs) refl
  where
    go : (i : Inside) → rest false cs ≡ i → value_of (rest false cs) ≡ unescape cs
    go (closed v k) e = rw (e, unescape)
    go unclosed e = rw (e, unescape)
