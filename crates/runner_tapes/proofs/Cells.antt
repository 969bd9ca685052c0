-- The cells under the heads: each lies in the row, and is the one of the definitions, by the number of tapes.
use mathlib.Core.Path.{◌≡◌}
use Prim.Native.Nat.{ℕ, ◌+◌, ◌*◌, ◌≤◌, ◌<◌}
use native.Mathlib.Omega.{arith}
use native.Mathlib.Nat.{mul-le-mul_left}
use mathlib.Core.List.{List}
use lib.ListN.{get_or, set}
use Rattle.running.specs.Tape.{tape_cells, cell_at}
use Rattle.running.specs.Step.{scanned, written_under}
use Rattle.runner_tapes.specs.declared.Heads.{Heads}
use Rattle.runner_tapes.specs.declared.Symbols.{Symbols}
use Rattle.runner_tapes.specs.Shown.{heads_of, symbols_of, Stands}

-- ---- each cell in the row

module _ (tapes half : ℕ) (h : Heads) (w : Stands tapes half h) (n : ℕ) (room : tape_cells half tapes ≤ n) where
  pub first_cell : h.first < n
  first_cell = let i = w.first_in in let l : 2 * half * 1 ≤ 2 * half * tapes = mul-le-mul_left (2 * half) w.least in omega arith

  pub second_cell : 2 ≤ tapes → 2 * half + h.second < n
  second_cell t = let i = w.second_in t in let l : 2 * half * 2 ≤ 2 * half * tapes = mul-le-mul_left (2 * half) t in omega arith

  pub third_cell : 3 ≤ tapes → 4 * half + h.third < n
  third_cell t = let i = w.third_in t in let l : 2 * half * 3 ≤ 2 * half * tapes = mul-le-mul_left (2 * half) t in omega arith

-- ---- the cells that the code takes are those of the definitions

at_first : (half a : ℕ) → cell_at half 0 a ≡ a
at_first half a = omega arith

at_second : (half a : ℕ) → cell_at half 1 a ≡ 2 * half + a
at_second half a = omega arith

at_third : (half a : ℕ) → cell_at half 2 a ≡ 4 * half + a
at_third half a = omega arith

-- ---- by the number of tapes

module _ (tapes half : ℕ) (h : Heads) (w : Stands tapes half h) (cells : List ℕ) (s : Symbols) where
  abbrev Reads : Type 0
  Reads = symbols_of tapes s ≡ scanned half 0 (heads_of tapes h) cells

  pub reads_one : tapes < 2 → s.first ≡ get_or cells h.first 0 → Reads
  unfolding symbols_of heads_of scanned
  reads_one t p =
      let i = w.least in
      let e : tapes ≡ 1 = omega arith in
      rw (e, at_first half h.first, p)

  pub reads_two : 2 ≤ tapes → tapes < 3 → s.first ≡ get_or cells h.first 0
      → s.second ≡ get_or cells (2 * half + h.second) 0 → Reads
  unfolding symbols_of heads_of scanned
  reads_two l t p q =
      let e : tapes ≡ 2 = omega arith in
      rw (e, at_first half h.first, at_second half h.second, p, q)

  pub reads_three : 3 ≤ tapes → s.first ≡ get_or cells h.first 0 → s.second ≡ get_or cells (2 * half + h.second) 0
      → s.third ≡ get_or cells (4 * half + h.third) 0 → Reads
  unfolding symbols_of heads_of scanned
  reads_three t p q r =
      let i = w.most in
      let e : tapes ≡ 3 = omega arith in
      rw (e, at_first half h.first, at_second half h.second, at_third half h.third, p, q, r)

  abbrev Writes : List ℕ → Type 0
  Writes after = after ≡ written_under half 0 (symbols_of tapes s) (heads_of tapes h) cells

  pub writes_one : tapes < 2 → Writes (set cells h.first s.first)
  unfolding symbols_of heads_of written_under
  writes_one t =
      let i = w.least in
      let e : tapes ≡ 1 = omega arith in
      rw (e, at_first half h.first)

  pub writes_two : 2 ≤ tapes → tapes < 3 → Writes (set (set cells h.first s.first) (2 * half + h.second) s.second)
  unfolding symbols_of heads_of written_under
  writes_two l t =
      let e : tapes ≡ 2 = omega arith in
      rw (e, at_first half h.first, at_second half h.second)

  pub writes_three : 3 ≤ tapes
      → Writes (set (set (set cells h.first s.first) (2 * half + h.second) s.second) (4 * half + h.third) s.third)
  unfolding symbols_of heads_of written_under
  writes_three t =
      let i = w.most in
      let e : tapes ≡ 3 = omega arith in
      rw (e, at_first half h.first, at_second half h.second, at_third half h.third)

pub ruleset in_row = (first_cell, second_cell, third_cell)
