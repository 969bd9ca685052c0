-- The loop: the steps done so far, and then the run of what is left, are the whole run.
use mathlib.Core.Path.{◌≡◌, ap, sym, ◌∙◌}
use Prim.Native.Nat.{ℕ, suc, ◌-◌, ◌≤◌}
use native.Mathlib.Omega.{arith}
use native.Mathlib.Nat.{add-zero}
use Rattle.std.specs.Prelude.{Ok, Err}
use Rattle.language.specs.Content.{Content}
use Rattle.running.specs.Tape.{Configuration}
use Rattle.running.specs.Run.{Stop, step_from, Ended, stopped, counted, run_from}
use Rattle.running.proofs.Runs.{behind, behind_none, behind_counted, step_left, run_stops, run_steps}

behind_stopped : (n : ℕ) (s : Stop) (c : Configuration) → behind n (stopped s c) ≡ record { stop = s; steps = n; last = c }
unfolding behind
behind_stopped n s c = ap {B = Ended} (λ k. record { stop = s; steps = k; last = c }) (add-zero n)

module _ (m : Content) (h left : ℕ) (start : Configuration) where
  -- with `rest` of the steps left the machine stands at c
  pub record Comes (rest : ℕ) (c : Configuration) : Type 0 where
    pub few : rest ≤ left
    pub is : behind (left - rest) (run_from m h rest c) ≡ run_from m h left start

  pub comes_start : Comes left start
  comes_start =
      let z : left - left ≡ 0 = omega arith in
      record { few = omega arith; is = rw z (behind_none (run_from m h left start)) }

  module _ (rest : ℕ) (c : Configuration) (w : Comes rest c) where
    pub comes_on : (d : Configuration) → Ok d ≡ step_from m h rest c → Comes (rest - 1) d
    comes_on d e =
        let i = w.few in
        let k = step_left m h rest c d (sym e) in
        let one : suc (rest - 1) ≡ rest = omega arith in
        let z : left - (rest - 1) ≡ suc (left - rest) = omega arith in
        let f = run_from m h (rest - 1) d in
        let goes : run_from m h rest c ≡ counted f =
        ap (λ n. run_from m h n c) (sym one) ∙ run_steps m h (rest - 1) c d (ap (λ n. step_from m h n c) one ∙ sym e) in
        record {
          few = omega arith;
          is = rw z (sym (behind_counted (left - rest) f) ∙ ap (behind (left - rest)) (sym goes) ∙ w.is);
        }

    pub comes_end : (s : Stop) (d : Configuration) → Err s ≡ step_from m h rest c → d ≡ c
        → record { stop = s; steps = left - rest; last = d } ≡ run_from m h left start
    comes_end s d e q =
        ap {B = Ended} (λ x. record { stop = s; steps = left - rest; last = x }) q
        ∙ sym (behind_stopped (left - rest) s c) ∙ ap (behind (left - rest)) (sym (run_stops m h rest c s (sym e))) ∙ w.is
