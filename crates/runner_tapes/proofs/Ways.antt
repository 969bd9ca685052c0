-- One head moved, by a direction's number: 0 is left, 1 is right, and any other stays.
use mathlib.Core.Path.{◌≡◌, refl}
use Prim.Native.Nat.{ℕ, zero, suc, ◌+◌, ◌-◌, ◌*◌, ◌≤◌, ◌<◌}
use Rattle.std.specs.Prelude.{None, Some}
use borrow.Author.Tests.{eq-eqb, ne_eqb, lt-ltb, le-ltb}
use Rattle.language.specs.Agreement.{dir_of}
use Rattle.running.specs.Step.{move}

module _ (half a : ℕ) (d : ℕ) where
  pub left_edge : d ≡ 0 → a ≡ 0 → None ≡ move half (dir_of d) a
  unfolding move
  left_edge e z = rw (e, eq-eqb a 0 z, move)

  pub left_on : d ≡ 0 → (a ≡ 0 → ⊥) → Some (a - 1) ≡ move half (dir_of d) a
  unfolding move
  left_on e z = rw (e, ne_eqb a 0 z, move)

  pub right_on : d ≡ 1 → a + 1 < 2 * half → Some (a + 1) ≡ move half (dir_of d) a
  unfolding move
  right_on e l = rw (e, lt-ltb (a + 1) (2 * half) l, move)

  pub right_edge : d ≡ 1 → 2 * half ≤ a + 1 → None ≡ move half (dir_of d) a
  unfolding move
  right_edge e l = rw (e, le-ltb (a + 1) (2 * half) l, move)

  pub stays : (d ≡ 0 → ⊥) → (d ≡ 1 → ⊥) → Some a ≡ move half (dir_of d) a
  unfolding move
  stays n k = go d n k
    where
      go : (d : ℕ) → (d ≡ 0 → ⊥) → (d ≡ 1 → ⊥) → Some a ≡ move half (dir_of d) a
      go zero n k = absurd (n refl)
      go (suc zero) n k = absurd (k refl)
      go (suc (suc d)) n k = refl

pub ruleset ways = (left_edge, left_on, right_on, right_edge, stays)
