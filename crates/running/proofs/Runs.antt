-- Laws of a step by cases; and of a run, by its first step, by induction, and what it is with more or fewer steps left.
use Prim.Native.Nat.{ℕ, zero, suc, ◌+◌, ◌-◌, ◌≤◌, ◌<◌}
use native.Mathlib.Omega.{arith}
use native.Mathlib.Nat.{zero-add}
use mathlib.Core.List.{List}
use Rattle.std.specs.Prelude.{Option, None, Some, Result, Ok, Err}
use mathlib.Core.Path.{◌≡◌, refl, ap, sym, subst, ◌∙◌}
use Rattle.language.specs.Content.{RuleContent, Content}
use Rattle.running.specs.Tape.{Configuration}
use Rattle.running.specs.Step.{moved_by, applied}
use Rattle.running.specs.Run.{Stop, halted, stuck, spent, edge, Due, stops, applies, due, step_from, Ended, stopped, counted, run_from}

-- something is not nothing
pub some_none : {A : Type 0} {a : A} → Some a ≡ None → ⊥
some_none e = cc

-- a run behind so many steps
unfoldable pub behind : ℕ → Ended → Ended
behind n e = record { stop = e.stop; steps = n + e.steps; last = e.last }

pub behind_none : (e : Ended) → behind 0 e ≡ e
unfolding behind
behind_none e = ap {B = Ended} (λ n. record { stop = e.stop; steps = n; last = e.last }) (zero-add e.steps)

pub behind_counted : (n : ℕ) (e : Ended) → behind n (counted e) ≡ behind (suc n) e
unfolding behind
behind_counted n e =
    let z : n + suc e.steps ≡ suc n + e.steps = omega arith in
    ap {B = Ended} (λ k. record { stop = e.stop; steps = k; last = e.last }) z

pub behind_more : (n k : ℕ) (e : Ended) → behind n (behind k e) ≡ behind (n + k) e
unfolding behind
behind_more n k e =
    let z : n + (k + e.steps) ≡ n + k + e.steps = omega arith in
    ap {B = Ended} (λ i. record { stop = e.stop; steps = i; last = e.last }) z

-- `m`: a machine; `h`: half a tape
module _ (m : Content) (h : ℕ) where
  -- ---- a step by cases

  pub step_rests : (n : ℕ) (c : Configuration) (s : Stop) → due m h c ≡ stops s → step_from m h n c ≡ Err s
  unfolding step_from
  step_rests n c s e = rw (e, step_from)

  pub step_spent : (c : Configuration) (r : RuleContent) → due m h c ≡ applies r → step_from m h zero c ≡ Err spent
  unfolding step_from
  step_spent c r e = rw (e, step_from)

  pub step_leaves : (n : ℕ) (c : Configuration) (r : RuleContent) → due m h c ≡ applies r → moved_by h r c ≡ None
      → step_from m h (suc n) c ≡ Err edge
  unfolding step_from
  step_leaves n c r e f = rw (e, step_from, f)

  pub step_goes : (n : ℕ) (c : Configuration) (r : RuleContent) (heads : List ℕ) → due m h c ≡ applies r
      → moved_by h r c ≡ Some heads → step_from m h (suc n) c ≡ Ok (applied h r heads c)
  unfolding step_from
  step_goes n c r heads e f = rw (e, step_from, f)

  -- a step that is done was left
  pub step_left : (n : ℕ) (c d : Configuration) → step_from m h n c ≡ Ok d → 0 < n
  step_left (suc n) c d e = omega arith
  step_left zero c d e = absurd (go (due m h c) refl)
    where
      none_done : (s : Stop) → ◌≡◌ {A = Result Configuration Stop} (Err s) (Ok d) → ⊥
      none_done s q = cc

      go : (x : Due) → due m h c ≡ x → ⊥
      go (stops s) f = none_done s (sym (step_rests zero c s f) ∙ e)
      go (applies r) f = none_done spent (sym (step_spent c r f) ∙ e)

  -- ---- a run by its first step

  pub run_stops : (n : ℕ) (c : Configuration) (s : Stop) → step_from m h n c ≡ Err s → run_from m h n c ≡ stopped s c
  unfolding run_from
  run_stops zero c s e = rw (e, run_from)
  run_stops (suc n) c s e = rw (e, run_from)

  pub run_steps : (n : ℕ) (c d : Configuration) → step_from m h (suc n) c ≡ Ok d → run_from m h (suc n) c ≡ counted (run_from m h n d)
  unfolding run_from
  run_steps n c d e = rw (e, run_from)

  -- ---- a run by cases

  pub run_rests : (n : ℕ) (c : Configuration) (s : Stop) → due m h c ≡ stops s → run_from m h n c ≡ stopped s c
  run_rests n c s e = run_stops n c s (step_rests n c s e)

  pub run_spent : (c : Configuration) (r : RuleContent) → due m h c ≡ applies r → run_from m h zero c ≡ stopped spent c
  run_spent c r e = run_stops zero c spent (step_spent c r e)

  pub run_leaves : (n : ℕ) (c : Configuration) (r : RuleContent) → due m h c ≡ applies r → moved_by h r c ≡ None
      → run_from m h (suc n) c ≡ stopped edge c
  run_leaves n c r e f = run_stops (suc n) c edge (step_leaves n c r e f)

  pub run_goes : (n : ℕ) (c : Configuration) (r : RuleContent) (heads : List ℕ) → due m h c ≡ applies r
      → moved_by h r c ≡ Some heads → run_from m h (suc n) c ≡ counted (run_from m h n (applied h r heads c))
  run_goes n c r heads e f = run_steps n c (applied h r heads c) (step_goes n c r heads e f)

  -- ---- induction

  -- what holds where a run stops, and before a step if it holds behind it, holds of every run
  pub run_elim : (P : ℕ → Configuration → Ended → Type 0)
      → ((n : ℕ) (c : Configuration) (s : Stop) → due m h c ≡ stops s → P n c (stopped s c))
      → ((c : Configuration) (r : RuleContent) → due m h c ≡ applies r → P zero c (stopped spent c))
      → ((n : ℕ) (c : Configuration) (r : RuleContent) → due m h c ≡ applies r → moved_by h r c ≡ None
      → P (suc n) c (stopped edge c))
      → ((n : ℕ) (c : Configuration) (r : RuleContent) (heads : List ℕ) → due m h c ≡ applies r → moved_by h r c ≡ Some heads
      → P n (applied h r heads c) (run_from m h n (applied h r heads c)) → P (suc n) c (counted (run_from m h n (applied h r heads c))))
      → (n : ℕ) (c : Configuration) → P n c (run_from m h n c)
  run_elim P rests ends leaves goes zero c = go (due m h c) refl
    where
      go : (d : Due) → due m h c ≡ d → P zero c (run_from m h zero c)
      go (stops s) e = rw (run_rests zero c s e) (rests zero c s e)
      go (applies r) e = rw (run_spent c r e) (ends c r e)
  run_elim P rests ends leaves goes (suc n) c = go (λ d. run_elim P rests ends leaves goes n d) (due m h c) refl
    where
      further : ((d : Configuration) → P n d (run_from m h n d)) → (r : RuleContent) → due m h c ≡ applies r
          → (o : Option (List ℕ)) → moved_by h r c ≡ o → P (suc n) c (run_from m h (suc n) c)
      further ih r e None f = rw (run_leaves n c r e f) (leaves n c r e f)
      further ih r e (Some heads) f = rw (run_goes n c r heads e f) (goes n c r heads e f (ih (applied h r heads c)))

      go : ((d : Configuration) → P n d (run_from m h n d)) → (d : Due) → due m h c ≡ d → P (suc n) c (run_from m h (suc n) c)
      go ih (stops s) e = rw (run_rests (suc n) c s e) (rests (suc n) c s e)
      go ih (applies r) e = further ih r e (moved_by h r c) refl

  -- ---- how many steps

  -- never more than are left
  pub run_used : (n : ℕ) (c : Configuration) → (run_from m h n c).steps ≤ n
  run_used = run_elim (λ n c e. e.steps ≤ n)
      (λ n c s e. omega arith) (λ c r e. omega arith) (λ n c r e f. omega arith) (λ n c r heads e f ih. omega arith)

  -- a run that was spent, with b more steps; any other stays as it is
  unfoldable pub resumed : ℕ → Ended → Ended
  unfolding run_from behind
  resumed b e = elim e.stop [
    | spent ↦ behind e.steps (run_from m h b e.last)
    | halted ↦ e
    | stuck ↦ e
    | edge ↦ e
  ]

  resumed_rests : (b : ℕ) (c : Configuration) (s : Stop) → due m h c ≡ stops s → resumed b (stopped s c) ≡ stopped s c
  unfolding resumed behind
  resumed_rests b c halted e = refl
  resumed_rests b c stuck e = refl
  resumed_rests b c edge e = refl
  resumed_rests b c spent e = rw (run_rests b c spent e)

  resumed_counted : (b : ℕ) (s : Stop) (k : ℕ) (d : Configuration)
      → counted (resumed b (record { stop = s; steps = k; last = d })) ≡ resumed b (record { stop = s; steps = suc k; last = d })
  unfolding resumed behind
  resumed_counted b halted k d = refl
  resumed_counted b stuck k d = refl
  resumed_counted b edge k d = refl
  resumed_counted b spent k d =
      let f = run_from m h b d in
      ap {B = Ended} (λ x. record { stop = f.stop; steps = x; last = f.last }) (sum k f.steps)
    where
      sum : (x y : ℕ) → suc (x + y) ≡ suc x + y
      sum x y = omega arith

  resumed_zero : (b : ℕ) (c : Configuration) → run_from m h b c ≡ resumed b (stopped spent c)
  unfolding resumed
  resumed_zero b c = sym (behind_none (run_from m h b c))

  -- a run with a + b left is the run with a, and where that is spent the run with b from there, its steps added
  pub run_again : (a b : ℕ) (c : Configuration) → run_from m h (a + b) c ≡ resumed b (run_from m h a c)
  run_again a b = run_elim (λ n c e. run_from m h (n + b) c ≡ resumed b e)
      (λ n c s e. run_rests (n + b) c s e ∙ sym (resumed_rests b c s e))
      (λ c r e. rw (zero-add b) (resumed_zero b c))
      (λ n c r e f. rw (sum n) (run_leaves (n + b) c r e f ∙ edges c))
      (λ n c r heads e f ih.
      rw (sum n) (run_goes (n + b) c r heads e f ∙ ap counted ih ∙ counts (run_from m h n (applied h r heads c))))
      a
    where
      sum : (n : ℕ) → suc n + b ≡ suc (n + b)
      sum n = omega arith

      edges : (c : Configuration) → stopped edge c ≡ resumed b (stopped edge c)
      edges c = unfold resumed in refl

      counts : (e : Ended) → counted (resumed b e) ≡ resumed b (counted e)
      counts e = resumed_counted b e.stop e.steps e.last

  -- ---- stops

  -- a stop that more steps do not change
  abbrev pub Lasts : Stop → Type 0
  Lasts halted = Unit {0}
  Lasts stuck = Unit {0}
  Lasts edge = Unit {0}
  Lasts spent = ⊥

  resumed_stays : (b : ℕ) (s : Stop) (k : ℕ) (d : Configuration) → Lasts s
      → resumed b (record { stop = s; steps = k; last = d }) ≡ record { stop = s; steps = k; last = d }
  unfolding resumed
  resumed_stays b halted k d l = refl
  resumed_stays b stuck k d l = refl
  resumed_stays b edge k d l = refl
  resumed_stays b spent k d l = absurd l

  -- a run that is not spent is the same with more left
  pub run_more : (a b : ℕ) (c : Configuration) → Lasts ((run_from m h a c).stop) → a ≤ b → run_from m h b c ≡ run_from m h a c
  run_more a b c l i =
      let e : a + (b - a) ≡ b = omega arith in
      let r = run_from m h a c in
      subst (λ n. run_from m h n c ≡ run_from m h a c) e (run_again a (b - a) c ∙ resumed_stays (b - a) r.stop r.steps r.last l)

  -- a stop for which nothing need be left
  abbrev pub Fixed : Stop → Type 0
  Fixed halted = Unit {0}
  Fixed stuck = Unit {0}
  Fixed edge = ⊥
  Fixed spent = ⊥

  fixed_lasts : (s : Stop) → Fixed s → Lasts s
  fixed_lasts halted f = tt
  fixed_lasts stuck f = tt
  fixed_lasts edge f = absurd f
  fixed_lasts spent f = absurd f

  -- its own steps are enough for a run that halts or is stuck
  run_enough : (n : ℕ) (c : Configuration) → Fixed ((run_from m h n c).stop) → run_from m h ((run_from m h n c).steps) c ≡ run_from m h n c
  run_enough = run_elim (λ n c e. Fixed e.stop → run_from m h e.steps c ≡ e)
      (λ n c s e f. run_rests zero c s e)
      (λ c r e f. absurd f)
      (λ n c r e f g. absurd g)
      (λ n c r heads e f ih g. run_goes _ c r heads e f ∙ ap counted (ih g))

  -- a run that halts or is stuck is the same with anything left from its steps on
  pub run_fixed : (a b : ℕ) (c : Configuration) → Fixed ((run_from m h a c).stop) → (run_from m h a c).steps ≤ b → run_from m h b c ≡ run_from m h a c
  run_fixed a b c f i =
      let e = run_enough a c f in
      run_more ((run_from m h a c).steps) b c (rw e (fixed_lasts ((run_from m h a c).stop) f)) i ∙ e

  -- with b left the run is spent behind b steps
  abbrev pub Spends : ℕ → Configuration → Type 0
  Spends b c = ((run_from m h b c).stop ≡ spent) × ((run_from m h b c).steps ≡ b)

  -- with fewer left than it did a run is spent
  pub run_short : (n : ℕ) (c : Configuration) (b : ℕ) → b < (run_from m h n c).steps → Spends b c
  run_short = run_elim (λ n c e. (b : ℕ) → b < e.steps → Spends b c)
      (λ n c s e b i. absurd (none_below b i))
      (λ c r e b i. absurd (none_below b i))
      (λ n c r e f b i. absurd (none_below b i))
      (λ n c r heads e f ih. shorter n c r heads e f ih)
    where
      none_below : (b : ℕ) → b < 0 → ⊥
      none_below b i = omega arith

      shorter : (n : ℕ) (c : Configuration) (r : RuleContent) (heads : List ℕ) → due m h c ≡ applies r
          → moved_by h r c ≡ Some heads
          → ((b : ℕ) → b < (run_from m h n (applied h r heads c)).steps → Spends b (applied h r heads c))
          → (b : ℕ) → b < suc (run_from m h n (applied h r heads c)).steps → Spends b c
      shorter n c r heads e f ih zero i = rw (run_spent c r e) (refl, refl)
      shorter n c r heads e f ih (suc b) i = let k = ih b (omega arith) in rw (run_goes b c r heads e f) (k.0, ap suc k.1)
