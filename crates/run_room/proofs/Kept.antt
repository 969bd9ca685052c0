-- What a run keeps: each cell holds a code point, the state is a name of the machine, and there are no more heads than tapes.
use Prim.Native.Nat.{ℕ, zero, suc, ◌≤◌, ◌<◌}
use native.Mathlib.Omega.{arith}
use mathlib.Core.Bool.{Bool, true, false}
use mathlib.Core.List.{List, [], ◌∷◌, ◌++◌, map}
use mathlib.Core.Path.{◌≡◌, refl, sym, subst}
use lib.ListN.{length, set, drop, replicate, length-replicate}
use lib.Seq.{sets}
use Rattle.std.specs.Prelude.{Option, None, Some, find}
use Rattle.chars.specs.Utf8.{encode}
use Rattle.language.specs.Content.{RuleContent, Content}
use Rattle.language.proofs.Every.{Every, by_test, every_append, every_map}
use Rattle.running.specs.Tape.{half, tape_cells, cell_at, blank_tapes, Configuration, initial}
use Rattle.running.specs.Step.{is_final, scanned, matches, written_under, applied}
use Rattle.running.specs.Run.{Stop, stuck, halted, stops, applies, due_in, due, run_from, run_on}
use Rattle.running.proofs.Runs.{some_none, run_elim}
use Rattle.running.proofs.Cells.{step_heads}
use Rattle.running.proofs.Starts.{every_replicate}
use Rattle.running.proofs.Batches.{set_every}

-- a code point
abbrev pub Code : ℕ → Type 0
Code c = c < 0x110000

-- a rule writes code points, and the name of its next state has at most n bytes
pub record RuleBound (n : ℕ) (r : RuleContent) : Type 0 where
  pub writes : Every (λ a. Code a.write) r.actions
  pub to_short : length (encode r.to) ≤ n

-- the same of all that a machine puts on its tapes and of all its states' names
pub record Bound (n : ℕ) (m : Content) : Type 0 where
  pub blank_code : Code m.blank
  pub input_codes : Every Code m.input
  pub start_short : length (encode m.start) ≤ n
  pub rules_bound : Every (RuleBound n) m.rules

-- of a machine at work
pub record Kept (n tapes : ℕ) (c : Configuration) : Type 0 where
  pub cells_codes : Every Code c.cells
  pub state_short : length (encode c.state) ≤ n
  pub few_heads : length c.heads ≤ tapes

-- ---- cells

module _ (p : ℕ → Type 0) where
  pub every_drop : (n : ℕ) (l : List ℕ) → Every p l → Every p (drop n l)
  every_drop zero l h = h
  every_drop (suc n) [] h = tt
  every_drop (suc n) (a ∷ l) h = every_drop n l h.1

  every_sets : (l : List ℕ) (i : ℕ) (vs : List ℕ) → Every p vs → Every p l → Every p (sets l i vs)
  every_sets l i [] k h = h
  every_sets l i (v ∷ vs) k h = every_sets (set l i v) (suc i) vs k.1 (set_every p l i v k.0 h)

  every_written : (h k : ℕ) (ss hs cells : List ℕ) → Every p ss → Every p cells → Every p (written_under h k ss hs cells)
  unfolding written_under
  every_written h k [] hs cells s c = c
  every_written h k (x ∷ ss) [] cells s c = c
  every_written h k (x ∷ ss) (a ∷ hs) cells s c =
      every_written h (suc k) ss hs (set cells (cell_at h k a) x) s.1 (set_every p cells (cell_at h k a) x s.0 c)

-- ---- a rule that applies is one of the machine's

not_due : {s : Stop} {r : RuleContent} → stops s ≡ applies r → ⊥
not_due e = let z : ◌≡◌ {A = ℕ} 0 1 = cc in omega arith

found_every : {A : Type 0} (q : A → Type 0) (test : A → Bool) (l : List A) (a : A) → Every q l → find test l ≡ Some a → q a
found_every q test [] a h e = absurd (some_none (sym e))
found_every q test (x ∷ l) a h e = by_test (test x)
    (λ t. let f : Some x ≡ Some a = rw t at e in let g : x ≡ a = cc in subst q g h.0)
    (λ t. let f : find test l ≡ Some a = rw t at e in found_every q test l a h.1 f)

due_rule : (q : RuleContent → Type 0) (m : Content) (h : ℕ) (c : Configuration) (r : RuleContent) → Every q m.rules
    → due m h c ≡ applies r → q r
unfolding due due_in
due_rule q m h c r k e = go (is_final m.states c.state) (find (matches c.state (scanned h 0 c.heads c.cells)) m.rules) refl e
  where
    go : (final : Bool) (o : Option RuleContent) → find (matches c.state (scanned h 0 c.heads c.cells)) m.rules ≡ o
        → elim final [ true ↦ stops halted | false ↦ elim o [ None ↦ stops stuck | Some x ↦ applies x ] ] ≡ applies r → q r
    go true o f g = absurd (not_due g)
    go false None f g = absurd (not_due g)
    go false (Some x) f g =
        let i : x ≡ r = cc in
        subst q i (found_every q (matches c.state (scanned h 0 c.heads c.cells)) m.rules x k f)

-- ---- a run

module _ (n : ℕ) (m : Content) (b : Bound n m) where
  -- a rule applied
  step_kept : (h : ℕ) (c : Configuration) (r : RuleContent) (heads : List ℕ) → RuleBound n r
      → length (applied h r heads c).heads ≤ length c.heads → Kept n m.tapes c → Kept n m.tapes (applied h r heads c)
  unfolding applied
  step_kept h c r heads k i w =
      let j = w.few_heads in
      let codes = every_map (λ a. Code a.write) Code (λ a. a.write) (λ a x. x) r.actions k.writes in
      record {
        cells_codes = every_written Code h 0 (map (λ a. a.write) r.actions) c.heads c.cells codes w.cells_codes;
        state_short = k.to_short;
        few_heads = omega arith;
      }

  run_kept : (h k : ℕ) (c : Configuration) → Kept n m.tapes c → Kept n m.tapes (run_from m h k c).last
  run_kept h = run_elim m h (λ k c e. Kept n m.tapes c → Kept n m.tapes e.last)
      (λ k c s e w. w) (λ c r e w. w) (λ k c r e f w. w)
      (λ k c r heads e f ih w. ih (step_kept h c r heads (due_rule (RuleBound n) m h c r b.rules_bound e) (step_heads m h c r heads f) w))

  start_kept : (cells : List ℕ) → Every Code cells → Kept n m.tapes (initial m cells)
  unfolding initial blank_tapes
  start_kept cells w =
      let h = half (length cells) m.tapes in
      let own = tape_cells h m.tapes in
      let blanks = every_append Code (replicate own m.blank) (drop own cells)
      (every_replicate Code own m.blank b.blank_code) (every_drop Code own cells w) in
      record {
        cells_codes = every_sets Code (replicate own m.blank ++ drop own cells) (cell_at h 0 h) m.input b.input_codes blanks;
        state_short = b.start_short;
        few_heads = omega (arith, length-replicate m.tapes h);
      }

  -- from its start on zeros
  pub ran_kept : (steps cells : ℕ) → Kept n m.tapes (run_on m steps (replicate cells 0)).last
  unfolding run_on
  ran_kept steps cells =
      let zeros = replicate cells 0 in
      run_kept (half (length zeros) m.tapes) steps (initial m zeros)
      (start_kept zeros (every_replicate Code cells 0 (omega arith)))
