-- How many cells the tapes take, and heads at position 0.
use mathlib.Core.Path.{◌≡◌, refl, sym, ap, ◌∙◌}
use Prim.Native.Nat.{ℕ, zero, suc, ◌*◌, ◌/◌, ◌≤◌}
use native.Mathlib.Omega.{arith}
use native.Mathlib.Nat.{div-zero, div-mul-le_self, mul-le-mul_left}
use mathlib.Core.List.{List, ◌++◌}
use lib.ListN.{length, take, drop, replicate}
use lib.Seq.{length-take-le}
use Rattle.running.specs.Tape.{half, tape_cells, blank_tapes}
use Rattle.runner_tapes.specs.declared.Heads.{Heads}
use Rattle.runner_tapes.specs.Shown.{heads_of}

pub half_none : (cells tapes : ℕ) → tapes ≡ 0 → 0 ≡ half cells tapes
unfolding half
half_none cells tapes e = rw e (sym (div-zero cells))

pub half_some : (cells tapes : ℕ) → cells / (2 * tapes) ≡ half cells tapes
unfolding half
half_some cells tapes = refl

pub ruleset halves = (half_none, half_some)

-- the tapes fit the row
pub tapes_fit : (cells tapes : ℕ) → tape_cells (half cells tapes) tapes ≤ cells
unfolding half
tapes_fit cells tapes = omega (arith, div-mul-le_self cells (2 * tapes))

-- and so does one of them
pub tape_fits : (cells tapes : ℕ) → 2 * half cells tapes ≤ cells
unfolding half
tape_fits cells zero = rw (div-zero cells) (omega arith)
tape_fits cells (suc t) =
    let o : 1 ≤ suc t = omega arith in
    omega (arith, tapes_fit cells (suc t), mul-le-mul_left (2 * half cells (suc t)) o)

-- the same of a number that is half a tape
module _ (cells tapes h : ℕ) (e : h ≡ half cells tapes) where
  pub twice_below : 2 * h ≤ cells
  twice_below = rw e (tape_fits cells tapes)

  pub own_below : 2 * h * tapes ≤ cells
  own_below = rw e (tapes_fit cells tapes)

  pub own_is : 2 * h * tapes ≡ tape_cells (half cells tapes) tapes
  own_is = rw e

pub ruleset room = (twice_below, own_below, own_is)

-- blank cells in front of what stays
pub blank_is : (cells : List ℕ) (tapes blank n : ℕ) → (n ≡ tape_cells (half (length cells) tapes) tapes) × (n ≤ length cells)
    → (own : List ℕ) → own ≡ replicate (length (take n cells)) blank
    → own ++ drop n cells ≡ blank_tapes (half (length cells) tapes) tapes blank cells
unfolding blank_tapes
blank_is cells tapes blank n e own f =
    let k : length (take n cells) ≡ n = length-take-le n cells e.1 in
    rw (← e.0) (ap (λ (l : List ℕ). l ++ drop n cells) (f ∙ ap (λ (i : ℕ). replicate i blank) k))

pub start_is : (tapes half : ℕ) (h : Heads) → tapes ≤ 3 → h.first ≡ half → h.second ≡ half → h.third ≡ half
    → heads_of tapes h ≡ replicate tapes half
unfolding heads_of
start_is zero half h m p q r = refl
start_is (suc zero) half h m p q r = rw p
start_is (suc (suc zero)) half h m p q r = rw (p, q)
start_is (suc (suc (suc zero))) half h m p q r = rw (p, q, r)
start_is (suc (suc (suc (suc t)))) half h m p q r = absurd (omega arith)

pub ruleset starts = (start_is)
