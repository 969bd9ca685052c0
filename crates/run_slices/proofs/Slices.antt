-- A slice of a run that was spent, and then the run of what is left, are the run; any other slice is its end.
use mathlib.Core.Path.{◌≡◌, refl, ap, sym, ◌∙◌}
use Prim.Native.Nat.{ℕ, ◌+◌, ◌-◌, ◌≤◌}
use native.Mathlib.Omega.{arith}
use mathlib.Core.Logic.{◌⊎◌, inl, inr}
use Rattle.language.specs.Content.{Content}
use Rattle.running.specs.Tape.{Configuration}
use Rattle.running.specs.Run.{Stop, halted, stuck, spent, edge, Ended, run_from}
use Rattle.runner_answer.specs.declared.Stop as Code
use Rattle.runner_answer.specs.declared.Stop.TheVariants.{Halted, Stuck, Spent, Edge}
use Rattle.runner_answer.specs.Answer.{stop_in}
use Rattle.running.proofs.Runs.{behind, behind_none, behind_more, run_used, resumed, run_again}

-- ---- what the code answers

pub is_spent : (s : Code.Stop) → s ≡ Spent → stop_in s ≡ spent
is_spent s e = ap stop_in e

pub not_spent : (s : Code.Stop) → (s ≡ Spent → ⊥) → stop_in s ≡ spent → ⊥
not_spent Halted n e = let z : ◌≡◌ {A = ℕ} 0 1 = cc in omega arith
not_spent Stuck n e = let z : ◌≡◌ {A = ℕ} 0 1 = cc in omega arith
not_spent Spent n e = n refl
not_spent Edge n e = let z : ◌≡◌ {A = ℕ} 0 1 = cc in omega arith

-- ---- slices

module _ (m : Content) (h : ℕ) where
  resumed_spent : (b : ℕ) (e : Ended) → e.stop ≡ spent → resumed m h b e ≡ behind e.steps (run_from m h b e.last)
  unfolding resumed
  resumed_spent b e s = rw (s, resumed)

  other_parts : (b : ℕ) (s : Stop) (k : ℕ) (d : Configuration) → (s ≡ spent → ⊥)
      → resumed m h b (record { stop = s; steps = k; last = d }) ≡ record { stop = s; steps = k; last = d }
  unfolding resumed
  other_parts b halted k d n = refl
  other_parts b stuck k d n = refl
  other_parts b edge k d n = refl
  other_parts b spent k d n = absurd (n refl)

  resumed_other : (b : ℕ) (e : Ended) → (e.stop ≡ spent → ⊥) → resumed m h b e ≡ e
  resumed_other b e n = other_parts b e.stop e.steps e.last n

  -- with `rest` of the steps left the machine stands at c, behind so many steps
  pub record RunSoFar (left : ℕ) (start : Configuration) (steps rest : ℕ) (c : Configuration) : Type 0 where
    pub few : steps + rest ≤ left
    pub is : behind steps (run_from m h rest c) ≡ run_from m h left start

  pub comes_start : (left : ℕ) (start : Configuration) → RunSoFar left start 0 left start
  comes_start left start = record { few = omega arith; is = behind_none (run_from m h left start) }

  module _ (left : ℕ) (start : Configuration) (steps rest : ℕ) (c : Configuration) (w : RunSoFar left start steps rest c)
      (slice : ℕ) (low : slice ≤ rest) (e : Ended) (q : e ≡ run_from m h slice c) where
    used : e.steps ≤ slice
    used = rw q (run_used m h slice c)

    cut : run_from m h rest c ≡ resumed m h (rest - slice) e
    cut = let z : slice + (rest - slice) ≡ rest = omega arith in
        ap (λ n. run_from m h n c) (sym z) ∙ run_again m h slice (rest - slice) c ∙ ap (resumed m h (rest - slice)) (sym q)

    -- behind so many steps more it stands where the slice ends
    pub comes_on : e.stop ≡ spent → RunSoFar left start (steps + e.steps) (rest - slice) e.last
    comes_on s =
        let i = used in
        let j = w.few in
        record {
          few = omega arith;
          is = sym (behind_more steps e.steps (run_from m h (rest - slice) e.last)) ∙ ap (behind steps) (sym (cut ∙ resumed_spent (rest - slice) e s)) ∙ w.is;
        }

    -- the steps so far are no more than were left
    pub steps_fit : steps + e.steps ≤ left
    steps_fit = let i = used in let j = w.few in omega arith

    -- a slice that stopped, or used what was left, is the end
    pub comes_end : (e.stop ≡ spent → ⊥) ⊎ (rest - slice ≡ 0) → behind steps e ≡ run_from m h left start
    comes_end (inl n) = ap (behind steps) (sym (cut ∙ resumed_other (rest - slice) e n)) ∙ w.is
    comes_end (inr z) =
        let same : slice ≡ rest = omega arith in
        ap (behind steps) (q ∙ ap (λ n. run_from m h n c) same) ∙ w.is
