-- Behind a run the cells that it cannot have reached, and its input does not take, hold a blank.
use Prim.Native.Nat.{ℕ, suc, ◌+◌, ◌*◌, ◌≤◌, ◌<◌}
use native.Mathlib.Omega.{arith}
use native.Mathlib.Nat.{mul-le-mul_left}
use mathlib.Core.List.{List, [], ◌∷◌}
use mathlib.Core.Path.{◌≡◌, refl, sym, ap, subst, ◌∙◌}
use borrow.Author.Tests.{ltb-true, ltb-false}
use lib.Dec.{ltb}
use lib.ListN.{length, get_or, set, drop, replicate, length-replicate, get_or-append}
use lib.Seq.{sets, get_or-set_other}
use Rattle.std.proofs.lemmas.List.{get_or-replicate}
use Rattle.language.specs.Content.{Content}
use Rattle.language.proofs.Every.{by_test}
use Rattle.running.specs.Tape.{half, tape_cells, cell_at, blank_tapes, initial}
use Rattle.running.specs.Run.{run_on}
use Rattle.running.specs.Fit.{Fit}
use Rattle.running.proofs.Cells.{distance}
use Rattle.running.proofs.Starts.{run_on_near}
use Rattle.runner_blanks.specs.declared.Blanks.{Blanks}
use Rattle.runner_blanks.specs.Known.{BlankBeyond}

-- what is stored leaves the cells before it
sets_before : (vs l : List ℕ) (at i : ℕ) → i < at → get_or (sets l at vs) i 0 ≡ get_or l i 0
sets_before [] l at i h = refl
sets_before (v ∷ vs) l at i h =
    sets_before vs (set l at v) (suc at) i (omega arith) ∙ get_or-set_other l at i v 0 (λ e. omega (arith, e))

-- and those behind it
sets_behind : (vs l : List ℕ) (at i : ℕ) → at + length vs ≤ i → get_or (sets l at vs) i 0 ≡ get_or l i 0
sets_behind [] l at i h = refl
sets_behind (v ∷ vs) l at i h =
    sets_behind vs (set l at v) (suc at) i (omega arith) ∙ get_or-set_other l at i v 0 (λ e. omega (arith, e))

module _ (m : Content) (cells : List ℕ) (f : Fit m (length cells)) where
  abbrev h : ℕ
  h = half (length cells) m.tapes

  module _ (j p : ℕ) (more : j < m.tapes) (on : p < 2 * h) where
    -- a blank tape's cell
    blank_there : get_or (blank_tapes h m.tapes m.blank cells) (cell_at h j p) 0 ≡ m.blank
    unfolding blank_tapes
    blank_there =
        let n : ℕ = tape_cells h m.tapes in
        let l : 2 * h * (j + 1) ≤ 2 * h * m.tapes = mul-le-mul_left (2 * h) (omega arith) in
        let u : cell_at h j p < n = omega (arith, l, on) in
        get_or-append (replicate n m.blank) (drop n cells) 0 (cell_at h j p) (omega (arith, length-replicate n m.blank, u))
        ∙ get_or-replicate n (cell_at h j p) m.blank 0 u

    -- at the start a cell that is as far from position 0 as the input is long
    start_far : length m.input ≤ distance h p → get_or (initial m cells).cells (cell_at h j p) 0 ≡ m.blank
    unfolding initial
    start_far d = by_test (ltb (cell_at h j p) (cell_at h 0 h))
        (λ t. sets_before m.input blanks (cell_at h 0 h) (cell_at h j p) (ltb-true _ _ t) ∙ blank_there)
        (λ t. sets_behind m.input blanks (cell_at h 0 h) (cell_at h j p) (behind (ltb-false (cell_at h j p) (cell_at h 0 h) t)) ∙ blank_there)
      where
        blanks : List ℕ
        blanks = blank_tapes h m.tapes m.blank cells

        behind : cell_at h 0 h ≤ cell_at h j p → cell_at h 0 h + length m.input ≤ cell_at h j p
        behind u = by_test (ltb j 1)
            (λ t.
            let z : j ≡ 0 = omega (arith, ltb-true j 1 t) in
            let q : 2 * h * j ≡ 2 * h * 0 = ap (λ x. 2 * h * x) z in
            omega (arith, d, u, q))
            (λ t.
            let one : 1 ≤ j = ltb-false j 1 t in
            let w : 2 * h * 1 ≤ 2 * h * j = mul-le-mul_left (2 * h) one in
            omega (arith, f.input_fits, w))

    -- and so behind a run of fewer steps
    run_far : (n : ℕ) → (run_on m n cells).steps ≤ distance h p → length m.input ≤ distance h p
        → get_or (run_on m n cells).last.cells (cell_at h j p) 0 ≡ m.blank
    run_far n s d = run_on_near m cells f n j p on s ∙ start_far d

  -- what is known behind a run
  pub known_behind : (n : ℕ) (b : Blanks) (last : List ℕ) → last ≡ (run_on m n cells).last.cells → length last ≡ length cells
      → b.tapes ≡ m.tapes → b.blank ≡ m.blank → (run_on m n cells).steps ≤ b.reach → length m.input ≤ b.reach → BlankBeyond b last
  known_behind n b last e size t v s i j p more on d =
      let k : half (length last) b.tapes ≡ h = ap (λ x. half x b.tapes) size ∙ ap (half (length cells)) t in
      let on' : p < 2 * h = subst (λ x. p < 2 * x) k on in
      let d' : b.reach ≤ distance h p = subst (λ x. b.reach ≤ distance x p) k d in
      let more' : j < m.tapes = subst (λ x. j < x) t more in
      let there : get_or last (cell_at h j p) 0 ≡ m.blank =
      ap (λ l. get_or l (cell_at h j p) 0) e ∙ run_far j p more' on' n (omega (arith, s, d')) (omega (arith, i, d')) in
      ap (λ x. get_or last (cell_at x j p) 0) k ∙ there ∙ sym v
