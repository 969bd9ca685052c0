-- How many words Σ and Γ may have, from the number of tokens and of codes: what a caller
-- needs to know that its index stays small.
use mathlib.Core.Path.{◌≡◌}
use mathlib.Core.Bool.{Bool, true, false, cond}
use mathlib.Core.List.{List, [], ◌∷◌, ◌++◌}
use Prim.Native.Nat.{ℕ, ◌+◌, ◌-◌, ◌*◌, ◌≤◌}
use native.Mathlib.Omega.{arith}
use lib.Dec.{ltb}
use lib.ListN.{length, get_or, drop, length-append, length-take, length-drop}
use Rattle.tokens.specs.declared.Token.{Token}
use Rattle.parser.specs.Row.{peek}
use Rattle.language.specs.Layout.{flat}
use Rattle.infer_symbols.specs.Symbols.{line_range, symbols_in, has_blank}
use Rattle.infer_symbols.specs.Alphabets.{listed_words, inferred_words, other_words, declared_gamma, gamma_words, inferred_sigma, sigma_words}
use Rattle.infer_symbols.proofs.AlphabetLaws.{flat_width, listed_width, other_width}

-- ---- Σ and Γ
inferred_width : (cs : List ℕ) → length (flat inferred_words cs) ≡ 3 * length cs
unfolding flat
inferred_width [] = omega arith
inferred_width (c ∷ cs) = omega (arith, length-append (inferred_words c) (flat inferred_words cs), inferred_width cs)

range_few : (ts : List Token) (f : ℕ) → length (line_range ts f) ≤ length ts
range_few ts f = omega (arith, length-take ((peek ts f).value - (f + 1)) (drop (f + 1) ts), length-drop (f + 1) ts)

line_width : (b : ℕ) (ts : List Token) (g : ℕ) (f : Token → List ℕ) → ((t : Token) → length (f t) ≤ 3) → length (flat f (symbols_in ts g)) ≤ 3 * length ts
unfolding symbols_in
line_width b ts g f h = omega (arith, flat_width f h (line_range ts g), range_few ts g)

pub gamma_width : (b : ℕ) (ts : List Token) (first cs : List ℕ) → length (gamma_words b ts first cs) ≤ 3 * length ts + 3 * length cs + 3
unfolding gamma_words declared_gamma
gamma_width b ts first cs = go (ltb (get_or first 7 0) (length ts)) (has_blank b (line_range ts (get_or first 7 0)))
  where
    g : ℕ
    g = get_or first 7 0

    l : List ℕ
    l = flat (listed_words b) (symbols_in ts g)

    go : (x y : Bool) → length (cond x (l ++ cond y [] (inferred_words b)) (flat inferred_words cs)) ≤ 3 * length ts + 3 * length cs + 3
    go true true = omega (arith, length-append l [], line_width b ts g (listed_words b) (listed_width b))
    go true false = omega (arith, length-append l (inferred_words b), line_width b ts g (listed_words b) (listed_width b))
    go false y = omega (arith, inferred_width cs)

pub sigma_width : (b : ℕ) (ts : List Token) (first cs : List ℕ) → length (sigma_words b ts first cs) ≤ 3 * length ts + 3 * length cs
unfolding sigma_words inferred_sigma
sigma_width b ts first cs = go (ltb (get_or first 6 0) (length ts)) (ltb (get_or first 7 0) (length ts))
  where
    go : (x y : Bool) → length (cond x (flat (listed_words b) (symbols_in ts (get_or first 6 0))) (cond y (flat (other_words b) (symbols_in ts (get_or first 7 0))) (flat inferred_words (drop 1 cs)))) ≤ 3 * length ts + 3 * length cs
    go true y = omega (arith, line_width b ts (get_or first 6 0) (listed_words b) (listed_width b))
    go false true = omega (arith, line_width b ts (get_or first 7 0) (other_words b) (other_width b))
    go false false = omega (arith, inferred_width (drop 1 cs), length-drop 1 cs)
