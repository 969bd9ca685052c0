-- A machine that is not refused starts on its own tapes, and its run knows nothing of other cells.
use Prim.Native.Nat.{ℕ, zero, suc, ◌+◌, ◌*◌, ◌≤◌, ◌<◌}
use native.Mathlib.Omega.{arith}
use native.Mathlib.Nat.{mul-le-mul_left, div-mul-le_self}
use mathlib.Core.Bool.{true}
use mathlib.Core.List.{List, [], ◌∷◌, ◌++◌, map}
use Rattle.std.specs.Prelude.{None, Some}
use mathlib.Core.Path.{◌≡◌, refl, ap, ap₂, sym, subst, ◌∙◌}
use borrow.Author.Tests.{leb-true, le-leb}
use lib.Dec.{leb}
use lib.ListN.{length, get_or, set, drop, replicate, length-replicate, length-append, length-set, length-drop, get_or-append}
use lib.Seq.{sets, length-sets, set-append_left, drop_at}
use Rattle.language.specs.Content.{RuleContent, Content}
use Rattle.language.proofs.Every.{by_test, Every, and_left, and_right}
use Rattle.running.specs.Tape.{half, tape_cells, cell_at, blank_tapes, Configuration, initial}
use Rattle.running.specs.Step.{scanned, written_under, moved_by, applied}
use Rattle.running.specs.Run.{due_in, due, Ended, counted, run_from, run_on}
use Rattle.running.specs.Refusals.{has_tapes, has_arity, has_room, unfit_for}
use Rattle.running.specs.Fit.{Fit}
use Rattle.running.proofs.Runs.{some_none, run_rests, run_spent, run_leaves, run_goes, run_elim}
use Rattle.running.proofs.Cells.{distance, Near, written-length, cell_used, run-length, step_near, step_heads, run_near}

-- ---- cells behind those of the tapes

-- with more cells behind
abbrev pub before : Configuration → List ℕ → Configuration
before c rest = record { state = c.state; heads = c.heads; cells = c.cells ++ rest }

abbrev pub ended_before : Ended → List ℕ → Ended
ended_before e rest = record { stop = e.stop; steps = e.steps; last = before e.last rest }

scanned_front : (h d t k : ℕ) (hs front rest : List ℕ) → Every (Near h d) hs → k + length hs ≤ t → length front ≡ tape_cells h t
    → scanned h k hs (front ++ rest) ≡ scanned h k hs front
unfolding scanned
scanned_front h d t k [] front rest n i e = refl
scanned_front h d t k (a ∷ hs) front rest n i e =
    let l = cell_used h k t a n.0.on_tape (omega arith) in
    let first = get_or-append front rest 0 (cell_at h k a) (rw e l) in
    ap₂ (λ x y. x ∷ y) first (scanned_front h d t (suc k) hs front rest n.1 (omega arith) e)

written_front : (h d t k : ℕ) (ss hs front rest : List ℕ) → Every (Near h d) hs → k + length hs ≤ t
    → length front ≡ tape_cells h t → written_under h k ss hs (front ++ rest) ≡ written_under h k ss hs front ++ rest
unfolding written_under
written_front h d t k [] hs front rest n i e = refl
written_front h d t k (s ∷ ss) [] front rest n i e = refl
written_front h d t k (s ∷ ss) (a ∷ hs) front rest n i e =
    let l = cell_used h k t a n.0.on_tape (omega arith) in
    let next = set front (cell_at h k a) s in
    ap (λ cs. written_under h (suc k) ss hs cs) (set-append_left front rest (cell_at h k a) s (rw e l))
    ∙ written_front h d t (suc k) ss hs next rest n.1 (omega arith) (length-set front (cell_at h k a) s ∙ e)

-- every head is on one of t tapes, and the cells are those of the tapes
pub record OnTapes (h t d : ℕ) (c : Configuration) : Type 0 where
  pub near : Every (Near h d) c.heads
  pub count : length c.heads ≤ t
  pub whole : length c.cells ≡ tape_cells h t

applied_stands : (m : Content) (h t d : ℕ) (c : Configuration) (r : RuleContent) (heads : List ℕ) → OnTapes h t d c
    → moved_by h r c ≡ Some heads → OnTapes h t (suc d) (applied h r heads c)
applied_stands m h t d c r heads s f =
    let i = step_heads m h c r heads f in
    let j = s.count in
    record { near = step_near m h d c r heads s.near f; count = omega arith; whole = kept }
  where
    kept : length (applied h r heads c).cells ≡ tape_cells h t
    kept = unfold applied in written-length h 0 (map (λ a. a.write) r.actions) c.heads c.cells ∙ s.whole

module _ (m : Content) (h t : ℕ) (rest : List ℕ) where
  due_front : (d : ℕ) (c : Configuration) → OnTapes h t d c → due m h (before c rest) ≡ due m h c
  unfolding due
  due_front d c s =
      let j = s.count in ap (due_in m c.state) (scanned_front h d t 0 c.heads c.cells rest s.near (omega arith) s.whole)

  moved_front : (c : Configuration) (r : RuleContent) → moved_by h r (before c rest) ≡ moved_by h r c
  unfolding moved_by
  moved_front c r = refl

  applied_front : (d : ℕ) (c : Configuration) (r : RuleContent) (heads : List ℕ) → OnTapes h t d c
      → applied h r heads (before c rest) ≡ before (applied h r heads c) rest
  unfolding applied
  applied_front d c r heads s =
      let j = s.count in
      let ws = map (λ a. a.write) r.actions in
      ap {B = Configuration} (λ cs. record { state = r.to; heads = heads; cells = cs })
      (written_front h d t 0 ws c.heads c.cells rest s.near (omega arith) s.whole)

  -- a run on the tapes alone is the run with other cells behind, which stay
  pub run_front : (n : ℕ) (c : Configuration) (d : ℕ) → OnTapes h t d c
      → run_from m h n (before c rest) ≡ ended_before (run_from m h n c) rest
  run_front = run_elim m h (λ n c e. (d : ℕ) → OnTapes h t d c → run_from m h n (before c rest) ≡ ended_before e rest)
      (λ n c s e d i. run_rests m h n (before c rest) s (due_front d c i ∙ e))
      (λ c r e d i. run_spent m h (before c rest) r (due_front d c i ∙ e))
      (λ n c r e f d i. run_leaves m h n (before c rest) r (due_front d c i ∙ e) (moved_front c r ∙ f))
      (λ n c r heads e f ih d i. run_goes m h n (before c rest) r heads (due_front d c i ∙ e) (moved_front c r ∙ f)
      ∙ ap (λ x. counted (run_from m h n x)) (applied_front d c r heads i)
      ∙ ap counted (ih (suc d) (applied_stands m h t d c r heads i f)))

-- ---- a machine that is not refused

-- not refused is fit
pub fit : (m : Content) (cells : ℕ) → unfit_for m cells ≡ None → Fit m cells
unfolding unfit_for has_room
fit m cells e = by_test (has_tapes m)
    (λ t. by_test (has_arity m)
    (λ u. by_test (has_room m cells)
    (λ v. passed t u v)
    (λ v. absurd (some_none (rw (t, unfit_for, u, v) at e))))
    (λ u. absurd (some_none (rw (t, unfit_for, u) at e))))
    (λ t. absurd (some_none (rw (t, unfit_for) at e)))
  where
    passed : has_tapes m ≡ true → has_arity m ≡ true → has_room m cells ≡ true → Fit m cells
    passed t u v = unfold has_room in (
        let h = half cells m.tapes in
        record {
          some_tape = leb-true 1 m.tapes (and_left (leb 1 m.tapes) (leb m.tapes 3) t);
          few_tapes = leb-true m.tapes 3 (and_right (leb 1 m.tapes) (leb m.tapes 3) t);
          arity = u;
          room = leb-true 1 h (and_left (leb 1 h) (leb (length m.input) h) v);
          input_fits = leb-true (length m.input) h (and_right (leb 1 h) (leb (length m.input) h) v);
        })

-- what is fit has so many tapes as the test asks for
pub fit_tapes : (m : Content) (cells : ℕ) → Fit m cells → has_tapes m ≡ true
fit_tapes m cells f = rw (le-leb 1 m.tapes f.some_tape, le-leb m.tapes 3 f.few_tapes)

-- ---- its start

-- a machine at its start on its tapes alone
unfoldable pub initial_alone : Content → ℕ → Configuration
initial_alone m h = record {
  state = m.start;
  heads = replicate m.tapes h;
  cells = sets (replicate (tape_cells h m.tapes) m.blank) (cell_at h 0 h) m.input;
}

sets_front : (front rest : List ℕ) (i : ℕ) (vs : List ℕ) → i + length vs ≤ length front
    → sets (front ++ rest) i vs ≡ sets front i vs ++ rest
sets_front front rest i [] l = refl
sets_front front rest i (v ∷ vs) l =
    ap (λ x. sets x (suc i) vs) (set-append_left front rest i v (omega arith))
    ∙ sets_front (set front i v) rest (suc i) vs (rw (length-set front i v) (omega arith))

pub every_replicate : (p : ℕ → Type 0) (n a : ℕ) → p a → Every p (replicate n a)
every_replicate p zero a h = tt
every_replicate p (suc n) a h = (h, every_replicate p n a h)

-- the cells of the tapes are there
pub tapes_fit : (m : Content) (cells : ℕ) → tape_cells (half cells m.tapes) m.tapes ≤ cells
unfolding half
tapes_fit m cells = omega (arith, div-mul-le_self cells (2 * m.tapes))

-- a run from the start keeps the number of cells
pub run_on-length : (m : Content) (n : ℕ) (cells : List ℕ) → length (run_on m n cells).last.cells ≡ length cells
unfolding run_on initial blank_tapes
run_on-length m n cells =
    let h = half (length cells) m.tapes in
    let k = tape_cells h m.tapes in
    run-length m h n (initial m cells) ∙ length-sets (replicate k m.blank ++ drop k cells) (cell_at h 0 h) m.input
    ∙ length-append (replicate k m.blank) (drop k cells)
    ∙ omega (arith, length-replicate k m.blank, length-drop k cells, tapes_fit m (length cells))

module _ (m : Content) (cells : List ℕ) (f : Fit m (length cells)) where
  abbrev h : ℕ
  h = half (length cells) m.tapes

  -- the cells of its tapes
  abbrev own : ℕ
  own = tape_cells h m.tapes

  heads_near : Every (Near h 0) (replicate m.tapes h)
  heads_near =
      let r = f.room in every_replicate (Near h 0) m.tapes h (record { on_tape = omega arith; within = omega arith })

  alone_stands : OnTapes h m.tapes 0 (initial_alone m h)
  unfolding initial_alone
  alone_stands = record {
    near = heads_near;
    count = omega (arith, length-replicate m.tapes h);
    whole = length-sets (replicate own m.blank) (cell_at h 0 h) m.input ∙ length-replicate own m.blank;
  }

  input_ends : cell_at h 0 h + length m.input ≤ own
  input_ends =
      let i = f.input_fits in
      let l : 2 * h * 1 ≤ 2 * h * m.tapes = mul-le-mul_left (2 * h) f.some_tape in
      omega arith

  initial_front : initial m cells ≡ before (initial_alone m h) (drop own cells)
  unfolding initial initial_alone blank_tapes
  initial_front =
      let blanks = replicate own m.blank in
      let fits : cell_at h 0 h + length m.input ≤ length blanks = rw (length-replicate own m.blank) input_ends in
      ap {B = Configuration} (λ cs. record { state = m.start; heads = replicate m.tapes h; cells = cs })
      (sets_front blanks (drop own cells) (cell_at h 0 h) m.input fits)

  -- a run from the start is the run on its tapes alone, the cells left over behind
  pub run_on_front : (n : ℕ) → run_on m n cells ≡ ended_before (run_from m h n (initial_alone m h)) (drop own cells)
  unfolding run_on
  run_on_front n =
      ap (run_from m h n) initial_front ∙ run_front m h m.tapes (drop own cells) n (initial_alone m h) 0 alone_stands

  -- it keeps the cells left over
  pub run_on_left_over : (n : ℕ) → drop own (run_on m n cells).last.cells ≡ drop own cells
  run_on_left_over n =
      let alone = run_from m h n (initial_alone m h) in
      rw (run_on_front n)
      (drop_at alone.last.cells (drop own cells) own (run-length m h n (initial_alone m h) ∙ alone_stands.whole))

  -- no cell of a tape has changed that is as many places from position 0 as it did steps, or more
  pub run_on_near : (n j p : ℕ) → p < 2 * h → (run_on m n cells).steps ≤ distance h p
      → get_or (run_on m n cells).last.cells (cell_at h j p) 0 ≡ get_or (initial m cells).cells (cell_at h j p) 0
  unfolding run_on initial
  run_on_near n j p i l = run_near m h j p i n (initial m cells) 0 heads_near (omega arith)

-- a run knows of the cells lent only how many they are
pub run_on_forgets : (m : Content) (n : ℕ) (cs ds : List ℕ) → Fit m (length cs) → length cs ≡ length ds
    → ((run_on m n cs).stop ≡ (run_on m n ds).stop) × ((run_on m n cs).steps ≡ (run_on m n ds).steps)
run_on_forgets m n cs ds f e =
    let alone : ℕ → Ended = λ k. run_from m (half k m.tapes) n (initial_alone m (half k m.tapes)) in
    let a = run_on_front m cs f n in
    let b = run_on_front m ds (subst (Fit m) e f) n in (
      ap (λ x. x.stop) a ∙ ap (λ k. (alone k).stop) e ∙ sym (ap (λ x. x.stop) b),
      ap (λ x. x.steps) a ∙ ap (λ k. (alone k).steps) e ∙ sym (ap (λ x. x.steps) b),
    )
