-- Which cells a run leaves as they were: those left over, and those farther from position 0 than its steps.
use Prim.Native.Nat.{ℕ, suc, ◌+◌, ◌-◌, ◌*◌, ◌≤◌, ◌<◌}
use native.Mathlib.Omega.{arith}
use native.Mathlib.Nat.{mul-le-mul_left}
use mathlib.Core.List.{List, [], ◌∷◌, map}
use Rattle.std.specs.Prelude.{Option, None, Some, option_map, option_and_then}
use mathlib.Core.Logic.{◌≢◌}
use mathlib.Core.Path.{◌≡◌, refl, sym, subst, ◌∙◌}
use borrow.Author.Tests.{ltb-true, ltb-false}
use lib.Dec.{eqb, ltb}
use lib.ListN.{length, get_or, set, drop, length-set}
use lib.Seq.{drop-set-lt, get_or-set_other}
use Rattle.language.specs.Machine.{Dir, left, right, stay}
use Rattle.language.specs.Content.{RuleContent, Content}
use Rattle.language.proofs.Every.{by_test, Every}
use Rattle.running.specs.Tape.{tape_cells, cell_at, Configuration}
use Rattle.running.specs.Step.{move, moved, written_under, moved_by, applied}
use Rattle.running.specs.Run.{run_from}
use Rattle.running.proofs.Runs.{some_none, run_elim}

-- how far an offset is from that of position 0
abbrev pub distance : ℕ → ℕ → ℕ
distance h a = (h - a) + (a - h)

-- an offset on the tape, no farther than d from position 0
pub record Near (h d a : ℕ) : Type 0 where
  pub on_tape : a < 2 * h
  pub within : distance h a ≤ d

-- ---- heads

-- a move goes one place at most, and stays on the tape
move_near : (h d : ℕ) (x : Dir) (a b : ℕ) → Near h d a → move h x a ≡ Some b → Near h (suc d) b
unfolding move
move_near h d left a b n e = by_test (eqb a 0)
    (λ t. absurd (some_none (sym (rw (t, move) at e))))
    (λ t. let f : Some (a - 1) ≡ Some b = rw (t, move) at e in let g : a - 1 ≡ b = cc in near_left n g)
  where
    near_left : Near h d a → a - 1 ≡ b → Near h (suc d) b
    near_left m g = let i = m.on_tape in let j = m.within in record { on_tape = omega arith; within = omega arith }
move_near h d right a b n e = by_test (ltb (a + 1) (2 * h))
    (λ t.
    let f : Some (a + 1) ≡ Some b = rw (t, move) at e in
    let g : a + 1 ≡ b = cc in
    near_right n g (ltb-true (a + 1) (2 * h) t))
    (λ t. absurd (some_none (sym (rw (t, move) at e))))
  where
    near_right : Near h d a → a + 1 ≡ b → a + 1 < 2 * h → Near h (suc d) b
    near_right m g k = let j = m.within in record { on_tape = omega arith; within = omega arith }
move_near h d stay a b n e = let f : a ≡ b = cc in record { on_tape = omega arith; within = omega arith }

-- heads taken apart
record Both (o : Option ℕ) (os : Option (List ℕ)) (heads : List ℕ) : Type 0 where
  first : ℕ
  rest : List ℕ
  here : o ≡ Some first
  there : os ≡ Some rest
  whole : first ∷ rest ≡ heads

both : (o : Option ℕ) (os : Option (List ℕ)) (heads : List ℕ)
    → option_and_then (λ b. option_map (λ bs. b ∷ bs) os) o ≡ Some heads → Both o os heads
both None os heads e = absurd (some_none (sym e))
both (Some a) None heads e = absurd (some_none (sym e))
both (Some a) (Some l) heads e = record { first = a; rest = l; here = refl; there = refl; whole = cc }

-- every head is near, one place farther behind a step
pub moved_near : (h d : ℕ) (xs : List Dir) (hs ks : List ℕ) → Every (Near h d) hs → moved h xs hs ≡ Some ks
    → Every (Near h (suc d)) ks
unfolding moved
moved_near h d [] hs ks n e = let f : [] ≡ ks = cc in subst (Every (Near h (suc d))) f tt
moved_near h d (x ∷ xs) [] ks n e = let f : [] ≡ ks = cc in subst (Every (Near h (suc d))) f tt
moved_near h d (x ∷ xs) (a ∷ hs) ks n e =
    let b = both (move h x a) (moved h xs hs) ks e in
    subst (Every (Near h (suc d))) b.whole (move_near h d x a b.first n.0 b.here, moved_near h d xs hs b.rest n.1 b.there)

-- and they become no more
pub moved-length : (h : ℕ) (xs : List Dir) (hs ks : List ℕ) → moved h xs hs ≡ Some ks → length ks ≤ length hs
unfolding moved
moved-length h [] hs ks e = let f : [] ≡ ks = cc in subst (λ l. length l ≤ length hs) f (omega arith)
moved-length h (x ∷ xs) [] ks e = let f : [] ≡ ks = cc in subst (λ l. length l ≤ 0) f (omega arith)
moved-length h (x ∷ xs) (a ∷ hs) ks e =
    let b = both (move h x a) (moved h xs hs) ks e in
    let i = moved-length h xs hs b.rest b.there in
    subst (λ l. length l ≤ suc (length hs)) b.whole (omega arith)

-- ---- cells

pub written-length : (h k : ℕ) (ss hs cells : List ℕ) → length (written_under h k ss hs cells) ≡ length cells
unfolding written_under
written-length h k [] hs cells = refl
written-length h k (s ∷ ss) [] cells = refl
written-length h k (s ∷ ss) (a ∷ hs) cells =
    written-length h (suc k) ss hs (set cells (cell_at h k a) s) ∙ length-set cells (cell_at h k a) s

-- a cell of the tapes stands before those left over
pub cell_used : (h k t a : ℕ) → a < 2 * h → k < t → cell_at h k a < tape_cells h t
cell_used h k t a i j = let l : 2 * h * suc k ≤ 2 * h * t = mul-le-mul_left (2 * h) j in omega arith

written_drop : (h d t k : ℕ) (ss hs cells : List ℕ) → Every (Near h d) hs → k + length hs ≤ t
    → drop (tape_cells h t) (written_under h k ss hs cells) ≡ drop (tape_cells h t) cells
unfolding written_under
written_drop h d t k [] hs cells n i = refl
written_drop h d t k (s ∷ ss) [] cells n i = refl
written_drop h d t k (s ∷ ss) (a ∷ hs) cells n i =
    written_drop h d t (suc k) ss hs (set cells (cell_at h k a) s) n.1 (omega arith)
    ∙ drop-set-lt (tape_cells h t) cells (cell_at h k a) s (cell_used h k t a n.0.on_tape (omega arith))

-- cells of two tapes, or at two offsets, are two
cells_apart : (h j k p a : ℕ) → p < 2 * h → a < 2 * h → p ≢ a → cell_at h j p ≢ cell_at h k a
cells_apart h j k p a i l n e = by_test (ltb j k)
    (λ t. let z : 2 * h * suc j ≤ 2 * h * k = mul-le-mul_left (2 * h) (ltb-true j k t) in omega arith)
    (λ t. by_test (ltb k j)
    (λ s. let z : 2 * h * suc k ≤ 2 * h * j = mul-le-mul_left (2 * h) (ltb-true k j s) in omega arith)
    (λ s. let q : j ≡ k = omega (arith, ltb-false j k t, ltb-false k j s) in n (omega (arith, rw q at e))))

written_far : (h d j p k : ℕ) (ss hs cells : List ℕ) → Every (Near h d) hs → p < 2 * h → d < distance h p
    → get_or (written_under h k ss hs cells) (cell_at h j p) 0 ≡ get_or cells (cell_at h j p) 0
unfolding written_under
written_far h d j p k [] hs cells n i l = refl
written_far h d j p k (s ∷ ss) [] cells n i l = refl
written_far h d j p k (s ∷ ss) (a ∷ hs) cells n i l =
    written_far h d j p (suc k) ss hs (set cells (cell_at h k a) s) n.1 i l
    ∙ get_or-set_other cells (cell_at h k a) (cell_at h j p) s 0 (cells_apart h j k p a i n.0.on_tape (λ e. other n.0 e))
  where
    other : Near h d a → p ≡ a → ⊥
    other b e = omega arith

-- ---- runs

module _ (m : Content) (h : ℕ) where
  -- a run keeps the number of cells
  pub run-length : (n : ℕ) (c : Configuration) → length (run_from m h n c).last.cells ≡ length c.cells
  run-length = run_elim m h (λ n c e. length e.last.cells ≡ length c.cells)
      (λ n c s e. refl) (λ c r e. refl) (λ n c r e f. refl) (λ n c r heads e f ih. ih ∙ kept c r heads)
    where
      kept : (c : Configuration) (r : RuleContent) (heads : List ℕ) → length (applied h r heads c).cells ≡ length c.cells
      kept c r heads = unfold applied in written-length h 0 (map (λ a. a.write) r.actions) c.heads c.cells

  -- a step of near heads is one of heads one place farther
  pub step_near : (d : ℕ) (c : Configuration) (r : RuleContent) (heads : List ℕ) → Every (Near h d) c.heads
      → moved_by h r c ≡ Some heads → Every (Near h (suc d)) (applied h r heads c).heads
  unfolding moved_by applied
  step_near d c r heads n f = moved_near h d (map (λ a. a.dir) r.actions) c.heads heads n f

  pub step_heads : (c : Configuration) (r : RuleContent) (heads : List ℕ) → moved_by h r c ≡ Some heads
      → length (applied h r heads c).heads ≤ length c.heads
  unfolding moved_by applied
  step_heads c r heads f = moved-length h (map (λ a. a.dir) r.actions) c.heads heads f

  -- cells left over stay as they were, where every head is on one of t tapes
  pub run_left_over : (t : ℕ) (n : ℕ) (c : Configuration) (d : ℕ) → Every (Near h d) c.heads → length c.heads ≤ t
      → drop (tape_cells h t) (run_from m h n c).last.cells ≡ drop (tape_cells h t) c.cells
  run_left_over t = run_elim m h
      (λ n c e. (d : ℕ) → Every (Near h d) c.heads → length c.heads ≤ t
      → drop (tape_cells h t) e.last.cells ≡ drop (tape_cells h t) c.cells)
      (λ n c s e d i l. refl) (λ c r e d i l. refl) (λ n c r e f d i l. refl)
      (λ n c r heads e f ih d i l.
      ih (suc d) (step_near d c r heads i f) (omega (arith, step_heads c r heads f)) ∙ step c r heads d i l)
    where
      step : (c : Configuration) (r : RuleContent) (heads : List ℕ) (d : ℕ) → Every (Near h d) c.heads → length c.heads ≤ t
          → drop (tape_cells h t) (applied h r heads c).cells ≡ drop (tape_cells h t) c.cells
      step c r heads d i l = unfold applied in written_drop h d t 0 (map (λ a. a.write) r.actions) c.heads c.cells i (omega arith)

  -- no cell changes that is as far from position 0 as the farthest head and the steps together, or farther
  pub run_near : (j p : ℕ) → p < 2 * h → (n : ℕ) (c : Configuration) (d : ℕ) → Every (Near h d) c.heads
      → d + (run_from m h n c).steps ≤ distance h p
      → get_or (run_from m h n c).last.cells (cell_at h j p) 0 ≡ get_or c.cells (cell_at h j p) 0
  run_near j p k = run_elim m h
      (λ n c e. (d : ℕ) → Every (Near h d) c.heads → d + e.steps ≤ distance h p
      → get_or e.last.cells (cell_at h j p) 0 ≡ get_or c.cells (cell_at h j p) 0)
      (λ n c s e d i l. refl) (λ c r e d i l. refl) (λ n c r e f d i l. refl)
      (λ n c r heads e f ih d i l. ih (suc d) (step_near d c r heads i f) (omega arith) ∙ step c r heads d i (omega arith))
    where
      step : (c : Configuration) (r : RuleContent) (heads : List ℕ) (d : ℕ) → Every (Near h d) c.heads → d < distance h p
          → get_or (applied h r heads c).cells (cell_at h j p) 0 ≡ get_or c.cells (cell_at h j p) 0
      step c r heads d i l = unfold applied in written_far h d j p 0 (map (λ a. a.write) r.actions) c.heads c.cells i k l
