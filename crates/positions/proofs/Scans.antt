-- What is left to count leads to the same position as the whole, and no position lies further than its bytes.
use mathlib.Core.Path.{◌≡◌, refl, ap, ap₂, sym, ◌∙◌}
use Prim.Native.Nat.{ℕ, ◌+◌, ◌≤◌, min}
use native.Mathlib.Omega.{arith}
use mathlib.Core.Bool.{Bool, true, false, cond, not}
use mathlib.Core.List.{List, [], ◌∷◌, ◌++◌, reverse, reverse-cons, reverse-reverse}
use lib.Dec.{eqb}
use lib.ListN.{length, take, drop}
use Rattle.std.specs.Prelude.{Option, Some, None, fold, count_by, take_while}
use Rattle.std.proofs.lemmas.List.{take_min}
use Rattle.std.proofs.lemmas.List.Sums.{fold-append, sum_by_push, take_while-cons}
use Rattle.chars.specs.Utf8.{front, decode}
use Rattle.chars.specs.Decoded.{decoded_at}
use Rattle.chars.proofs.Laws.{char_decode, char_lt, char_le, char_falls, none_decode}
use Rattle.positions.specs.declared.Position.{Position}
use Rattle.positions.specs.Positions.{behind, line_column}
use Rattle.positions.specs.Steps.{start, next}

-- ---- one step after the other is the position behind all

abbrev at : ℕ → ℕ → Position
at l k = record { line = l; column = k }

-- one character more
next_at : (n c : ℕ) (ks : List ℕ) → next (at (n + 1) (length ks + 1)) c ≡ at (n + cond (eqb c 10) 1 0 + 1) (length (cond (not (eqb c 10)) (c ∷ ks) []) + 1)
unfolding next
next_at n c ks = go (eqb c 10)
  where
    go : (b : Bool) → ◌≡◌ {A = Position} (elim b [ true ↦ at (n + 1 + 1) 1 | false ↦ at (n + 1) (length ks + 1 + 1) ]) (at (n + cond b 1 0 + 1) (length (cond (not b) (c ∷ ks) []) + 1))
    go true = refl
    go false = ap₂ at (omega arith) (omega arith)

-- by the characters from the last to the first
from_the_back : (rs : List ℕ) → fold next start (reverse rs) ≡ at (count_by (λ c. eqb c 10) (reverse rs) + 1) (length (take_while (λ c. not (eqb c 10)) rs) + 1)
from_the_back [] = refl
from_the_back (c ∷ rs) =
    let w : reverse (c ∷ rs) ≡ reverse rs ++ c ∷ [] = reverse-cons c rs in
    let n : ℕ = count_by (λ c. eqb c 10) (reverse rs) in
    let lines : n + cond (eqb c 10) 1 0 ≡ count_by (λ c. eqb c 10) (reverse (c ∷ rs)) = sym (ap (count_by (λ c. eqb c 10)) w ∙ sum_by_push (λ x. cond (eqb x 10) 1 0) (reverse rs) c) in
    let left : cond (not (eqb c 10)) (c ∷ take_while (λ c. not (eqb c 10)) rs) [] ≡ take_while (λ c. not (eqb c 10)) (c ∷ rs) = sym (take_while-cons (λ c. not (eqb c 10)) c rs) in
    ap (fold next start) w ∙ fold-append next start (reverse rs) (c ∷ []) ∙ ap (λ p. next p c) (from_the_back rs)
    ∙ next_at n c (take_while (λ c. not (eqb c 10)) rs) ∙ ap₂ (λ m l. at (m + 1) (length l + 1)) lines left

pub steps_behind : (cs : List ℕ) → fold next start cs ≡ behind cs
unfolding behind
steps_behind cs = rw (reverse-reverse cs) at (from_the_back (reverse cs))

-- ---- the loop

-- a step goes on by one line or one column at most
pub record NotFar (p : Position) (i : ℕ) : Type 0 where
  pub line : p.line ≤ i + 1
  pub column : p.column ≤ i + 1

pub far_start : NotFar (at 1 1) 0
far_start = record { line = omega arith; column = omega arith }

far_next : (p : Position) (c i n : ℕ) → i + 1 ≤ n → NotFar p i → NotFar (next p c) n
unfolding next
far_next p c i n l h =
    elim (eqb c 10) as (λ t. NotFar (elim t [ true ↦ record { line = p.line + 1; column = 1 } | false ↦ record { line = p.line; column = p.column + 1 } ]) n) [
      | true ↦ record { line = omega (arith, h.line); column = omega arith }
      | false ↦ record { line = omega (arith, h.line); column = omega (arith, h.column) }
    ]

module _ (t : List ℕ) (i : ℕ) (r : Option (ℕ × ℕ)) (s : r ≡ decoded_at i (front (drop i t))) where
  module _ (c n : ℕ) (e : r ≡ Some (c, n)) (p q : Position) (w : q ≡ next p c) where
    pub far_on : NotFar p i → NotFar q n
    far_on h = rw w (far_next p c i n (omega (arith, char_lt t i r s c n e)) h)

    pub steps_on : (v : Position) → fold next p (decode (drop i t)) ≡ v → fold next q (decode (drop n t)) ≡ v
    steps_on v h = rw w (rw (char_decode t i r s c n e) at h)

  pub steps_end : r ≡ None → (p v : Position) → fold next p (decode (drop i t)) ≡ v → p ≡ v
  steps_end e p v h = rw (none_decode t i r s e) at h

-- the part before an offset, which may lie behind the end
pub cut : (t : List ℕ) (o n : ℕ) (p : Position) → n ≡ min o (length t) → p ≡ behind (decode (take n t)) → p ≡ line_column t o
unfolding line_column
cut t o n p e h = h ∙ ap (λ k. behind (decode (take k t))) e ∙ ap (λ l. behind (decode l)) (take_min o t)

-- what closes the goals of the loop
pub ruleset scan = (char_le, char_falls, steps_behind, far_start, far_on, steps_on, steps_end, cut)
