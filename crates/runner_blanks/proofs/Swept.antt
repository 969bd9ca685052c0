-- A part of a row made blank, and the tapes one after the other: the cells that stand near position 0 are made blank, the others
-- are.
use Prim.Native.Nat.{ℕ, ◌+◌, ◌-◌, ◌*◌, ◌≤◌, ◌<◌, min}
use native.Mathlib.Omega.{arith}
use native.Mathlib.Nat.{mul-le-mul_left}
use mathlib.Core.List.{List, ◌++◌}
use mathlib.Core.Path.{◌≡◌, refl, sym, ap, ◌∙◌}
use borrow.Author.Tests.{ltb-true, ltb-false}
use lib.Dec.{ltb}
use lib.ListN.{length, get_or, take, drop, replicate, length-append, length-replicate, length-drop, get_or-append}
use lib.Seq.{length-take-le, get_or-take, get_or-drop}
use Rattle.std.proofs.lemmas.List.{ext_get_or, get_or-replicate, get_or-append_right}
use Rattle.language.proofs.Every.{by_test}
use Rattle.running.specs.Tape.{half, tape_cells, cell_at, blank_tapes}
use Rattle.running.proofs.Cells.{distance}
use Rattle.runner_blanks.specs.declared.Blanks.{Blanks}
use Rattle.runner_blanks.specs.Known.{BlankBeyond}

-- ---- a part of a row

module _ (l : List ℕ) (a b v : ℕ) (le : a ≤ b) (fits : b ≤ length l) where
  abbrev mid : List ℕ
  mid = replicate (b - a) v ++ drop b l

  -- the row with v from a to before b
  abbrev pub part : List ℕ
  part = take a l ++ mid

  front : length (take a l) ≡ a
  front = length-take-le a l (omega arith)

  pub part-length : length part ≡ length l
  part-length = length-append (take a l) mid
      ∙ omega (arith, front, length-append (replicate (b - a) v) (drop b l), length-replicate (b - a) v, length-drop b l)

  pub part_before : (i : ℕ) → i < a → get_or part i 0 ≡ get_or l i 0
  part_before i h = get_or-append (take a l) mid 0 i (omega (arith, front)) ∙ get_or-take a l i 0 h

  pub part_inside : (i : ℕ) → a ≤ i → i < b → get_or part i 0 ≡ v
  part_inside i h k =
      get_or-append_right (take a l) mid a i 0 front h
      ∙ get_or-append (replicate (b - a) v) (drop b l) 0 (i - a) (omega (arith, length-replicate (b - a) v))
      ∙ get_or-replicate (b - a) (i - a) v 0 (omega arith)

  pub part_behind : (i : ℕ) → b ≤ i → get_or part i 0 ≡ get_or l i 0
  part_behind i h =
      let e : b + (i - a - (b - a)) ≡ i = omega arith in
      get_or-append_right (take a l) mid a i 0 front (omega arith)
      ∙ get_or-append_right (replicate (b - a) v) (drop b l) (b - a) (i - a) 0 (length-replicate (b - a) v) (omega arith)
      ∙ get_or-drop b l (i - a - (b - a)) 0 ∙ ap (λ n. get_or l n 0) e

-- ---- the tapes

-- the tapes before the j-th are blank, and the cells behind them are as they were
pub record Swept (b : Blanks) (cells : List ℕ) (j : ℕ) (cells' : List ℕ) : Type 0 where
  pub size : length cells' ≡ length cells
  pub done : (i : ℕ) → i < 2 * half (length cells) b.tapes * j → get_or cells' i 0 ≡ b.blank
  pub rest : (i : ℕ) → 2 * half (length cells) b.tapes * j ≤ i → get_or cells' i 0 ≡ get_or cells i 0

module _ (b : Blanks) (cells : List ℕ) where
  abbrev h : ℕ
  h = half (length cells) b.tapes

  -- none at first
  pub swept_none : Swept b cells 0 cells
  swept_none = record { size = refl; done = λ i l. absurd (omega (arith, l)); rest = λ i l. refl }

  module _ (holds : BlankBeyond b cells) (own : 2 * h * b.tapes ≤ length cells) where
    -- one more, of whose cells those within r of position 0 are made blank
    module _ (j : ℕ) (more : j < b.tapes) (cells' : List ℕ) (s : Swept b cells j cells') (k r : ℕ) (k-is : k ≡ h)
        (r-is : r ≡ min k b.reach) where
      room : 2 * h * (j + 1) ≤ length cells'
      room =
          let l : 2 * h * (j + 1) ≤ 2 * h * b.tapes = mul-le-mul_left (2 * h) (omega arith) in
          omega (arith, s.size)

      abbrev m : ℕ
      m = (2 * j + 1) * k

      least : r ≤ h
      least = omega (arith, k-is, r-is)

      at : m ≡ 2 * h * j + h
      at = ap (λ x. (2 * j + 1) * x) k-is ∙ omega arith

      pub near_le : m - r ≤ m + r
      near_le = omega arith

      pub near_fits : m + r ≤ length cells'
      near_fits = omega (arith, at, least, room)

      -- a cell of this tape that is not made blank is
      far : (i : ℕ) → 2 * h * j ≤ i → i < 2 * h * (j + 1) → (p : ℕ) → p ≡ i - 2 * h * j → b.reach ≤ distance h p → get_or cells' i 0 ≡ b.blank
      far i l n p e d =
          let q : cell_at h j p ≡ i = omega (arith, e) in
          s.rest i l ∙ sym (ap (λ x. get_or cells x 0) q) ∙ holds j p more (omega (arith, e)) d

      abbrev next : List ℕ
      next = part cells' (m - r) (m + r) b.blank near_le near_fits

      done_next : (i : ℕ) → i < 2 * h * (j + 1) → get_or next i 0 ≡ b.blank
      done_next i l = by_test (ltb i (m - r))
          (λ t.
          let u : i < m - r = ltb-true i (m - r) t in
          part_before cells' (m - r) (m + r) b.blank near_le near_fits i u ∙ by_test (ltb i (2 * h * j))
          (λ v. s.done i (ltb-true i (2 * h * j) v))
          (λ v.
          let w : 2 * h * j ≤ i = ltb-false i (2 * h * j) v in
          far i w l (i - 2 * h * j) refl (omega (arith, at, k-is, r-is, u, w))))
          (λ t. by_test (ltb i (m + r))
          (λ u. part_inside cells' (m - r) (m + r) b.blank near_le near_fits i (ltb-false i (m - r) t) (ltb-true i (m + r) u))
          (λ u.
          let v : m + r ≤ i = ltb-false i (m + r) u in
          part_behind cells' (m - r) (m + r) b.blank near_le near_fits i v
          ∙ far i (omega (arith, at, v)) l (i - 2 * h * j) refl (omega (arith, at, k-is, r-is, v, l))))

      pub swept_more : (new : List ℕ) → new ≡ take (m - r) cells' ++ (replicate (m + r - (m - r)) b.blank ++ drop (m + r) cells')
          → Swept b cells (j + 1) new
      swept_more new e = rw e (record {
        size = part-length cells' (m - r) (m + r) b.blank near_le near_fits ∙ s.size;
        done = done_next;
        rest = λ i l. part_behind cells' (m - r) (m + r) b.blank near_le near_fits i (omega (arith, at, least, l))
            ∙ s.rest i (omega (arith, l));
      })

    -- all of them
    pub swept_all : (cells' : List ℕ) → Swept b cells b.tapes cells' → cells' ≡ blank_tapes h b.tapes b.blank cells
    unfolding blank_tapes
    swept_all cells' s =
        let n : ℕ = tape_cells h b.tapes in
        let size : length (replicate n b.blank ++ drop n cells) ≡ length cells =
        length-append (replicate n b.blank) (drop n cells) ∙ omega (arith, length-replicate n b.blank, length-drop n cells, own) in
        ext_get_or 0 cells' (replicate n b.blank ++ drop n cells) (s.size ∙ sym size) (λ i l. by_test (ltb i n)
        (λ t.
        let u : i < n = ltb-true i n t in
        s.done i u ∙ sym (get_or-append (replicate n b.blank) (drop n cells) 0 i (omega (arith, length-replicate n b.blank, u))
        ∙ get_or-replicate n i b.blank 0 u))
        (λ t.
        let u : n ≤ i = ltb-false i n t in
        let e : n + (i - n) ≡ i = omega arith in
        s.rest i u ∙ sym (get_or-append_right (replicate n b.blank) (drop n cells) n i 0 (length-replicate n b.blank) u
        ∙ get_or-drop n cells (i - n) 0 ∙ ap (λ x. get_or cells x 0) e)))
