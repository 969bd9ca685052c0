-- All heads moved, by the number of tapes and by the head that would leave.
use mathlib.Core.Path.{◌≡◌, sym, ◌∙◌}
use Prim.Native.Nat.{ℕ, zero, suc, ◌≤◌, ◌<◌}
use native.Mathlib.Omega.{arith}
use Rattle.std.specs.Prelude.{Option, None, Some, option_map}
use Rattle.language.specs.Agreement.{dir_of}
use Rattle.running.specs.Step.{move, moved}
use Rattle.runner_tapes.specs.declared.Heads.{Heads}
use Rattle.runner_tapes.specs.declared.Moves.{Moves}
use Rattle.runner_tapes.specs.Shown.{heads_of, dirs_of, Stands}

module _ (tapes half : ℕ) (h : Heads) (w : Stands tapes half h) (m : Moves) where
  abbrev Goes : Option Heads → Type 0
  Goes o = option_map (heads_of tapes) o ≡ moved half (dirs_of tapes m) (heads_of tapes h)

  module _ (p : Option ℕ) (e : p ≡ move half (dir_of m.first) h.first) where
    pub first_edge : p ≡ None → Goes None
    unfolding dirs_of heads_of moved
    first_edge f = go tapes w.least
      where
        go : (t : ℕ) → 1 ≤ t → None ≡ moved half (dirs_of t m) (heads_of t h)
        go zero l = absurd (omega arith)
        go (suc t) l = unfold dirs_of in unfold heads_of in unfold moved in rw (sym e ∙ f)

    module _ (a : ℕ) (f : p ≡ Some a) where
      pub moved_one : (to : Heads) → tapes < 2 → to.first ≡ a → Goes (Some to)
      unfolding dirs_of heads_of moved
      moved_one to t i =
          let l = w.least in
          let z : tapes ≡ 1 = omega arith in
          rw (z, sym e ∙ f, i)

      module _ (q : Option ℕ) (k : q ≡ move half (dir_of m.second) h.second) (s : 2 ≤ tapes) where
        pub second_edge : q ≡ None → Goes None
        unfolding dirs_of heads_of moved
        second_edge g = go tapes s
          where
            go : (t : ℕ) → 2 ≤ t → None ≡ moved half (dirs_of t m) (heads_of t h)
            go zero l = absurd (omega arith)
            go (suc zero) l = absurd (omega arith)
            go (suc (suc t)) l = unfold dirs_of in unfold heads_of in unfold moved in rw (sym e ∙ f, sym k ∙ g)

        module _ (b : ℕ) (g : q ≡ Some b) where
          pub moved_two : (to : Heads) → tapes < 3 → to.first ≡ a → to.second ≡ b → Goes (Some to)
          unfolding dirs_of heads_of moved
          moved_two to t i j =
              let z : tapes ≡ 2 = omega arith in
              rw (z, sym e ∙ f, sym k ∙ g, i, j)

          module _ (r : Option ℕ) (n : r ≡ move half (dir_of m.third) h.third) (t : 3 ≤ tapes) where
            pub third_edge : r ≡ None → Goes None
            unfolding dirs_of heads_of moved
            third_edge v =
                let l = w.most in
                let z : tapes ≡ 3 = omega arith in
                rw (z, sym e ∙ f, sym k ∙ g, sym n ∙ v)

            pub moved_three : (c : ℕ) (to : Heads) → r ≡ Some c → to.first ≡ a → to.second ≡ b → to.third ≡ c → Goes (Some to)
            unfolding dirs_of heads_of moved
            moved_three c to v i j l =
                let y = w.most in
                let z : tapes ≡ 3 = omega arith in
                rw (z, sym e ∙ f, sym k ∙ g, sym n ∙ v, i, j, l)

pub ruleset together = (first_edge, moved_one, second_edge, moved_two, third_edge, moved_three)
