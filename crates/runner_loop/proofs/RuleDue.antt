-- The rule that is due with so many steps left: by what is due, and whether a step is left.
use mathlib.Core.Path.{◌≡◌, refl, ap}
use Prim.Native.Nat.{ℕ, zero, suc}
use Rattle.std.specs.Prelude.{Ok, Err}
use Rattle.running.specs.Run as Run
use Rattle.runner_answer.specs.Answer.{stop_in}
use Rattle.runner_answer.specs.declared.Stop.{Stop}
use Rattle.runner_answer.specs.declared.Stop.TheVariants.{Spent}
use Rattle.runner_rules.specs.declared.search.Rules.{Rules}
use Rattle.runner_rules.specs.Due.{rule_here}
use Rattle.runner_loop.specs.Steps.{due_with, rule_or_stop}

module _ (r : Rules) (d : Run.Due) (left : ℕ) where
  pub stops_so : (stop : Stop) → Run.stops (stop_in stop) ≡ d → rule_or_stop r (Err stop) ≡ due_with d left
  stops_so stop e = ap (λ x. due_with x left) e

  module _ (j : ℕ) (e : Run.applies (rule_here r j) ≡ d) where
    pub none_left : left ≡ 0 → rule_or_stop r (Err Spent) ≡ due_with d left
    none_left z = rw z (ap (λ x. due_with x 0) e)

    pub one_left : (left ≡ 0 → ⊥) → rule_or_stop r (Ok j) ≡ due_with d left
    one_left z = go left z
      where
        go : (n : ℕ) → (n ≡ 0 → ⊥) → rule_or_stop r (Ok j) ≡ due_with d n
        go zero z = absurd (z refl)
        go (suc n) z = ap (λ x. due_with x (suc n)) e
