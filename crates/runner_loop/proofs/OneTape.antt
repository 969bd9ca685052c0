-- On one tape: what stands under its head is all that is scanned, and one head is moved and one symbol written.
use mathlib.Core.Path.{◌≡◌, sym, ◌∙◌}
use Prim.Native.Nat.{ℕ, ◌+◌, ◌*◌}
use native.Mathlib.Omega.{arith}
use mathlib.Core.List.{List, [], ◌∷◌}
use lib.ListN.{get_or, set}
use Rattle.std.specs.Prelude.{Option, Some, None}
use Rattle.language.specs.Machine.{Dir}
use Rattle.running.specs.Step.{scanned, move, moved, written_under}
use Rattle.runner_tapes.specs.declared.Heads.{Heads}
use Rattle.runner_tapes.specs.declared.Symbols.{Symbols}
use Rattle.runner_tapes.specs.Shown.{heads_of, symbols_of}

at_first : (h a : ℕ) → 2 * h * 0 + a ≡ a
at_first h a = omega arith

module _ (tapes : ℕ) (one : tapes ≡ 1) (h : ℕ) (heads : Heads) (cells : List ℕ) where
  pub one_scanned : (s : Symbols) → s.first ≡ get_or cells heads.first 0
      → symbols_of tapes s ≡ scanned h 0 (heads_of tapes heads) cells
  unfolding scanned heads_of symbols_of
  one_scanned s e = rw (one, e, at_first h heads.first)

  pub one_written : (s : ℕ) → set cells heads.first s ≡ written_under h 0 (s ∷ []) (heads_of tapes heads) cells
  unfolding written_under heads_of
  one_written s = rw (one, at_first h heads.first)

  module _ (d : Dir) (o : Option ℕ) (is : o ≡ move h d heads.first) where
    pub one_left : o ≡ None → moved h (d ∷ []) (heads_of tapes heads) ≡ None
    unfolding moved heads_of
    one_left n = rw (one, sym is ∙ n)

    pub one_moved : (to : Heads) → o ≡ Some to.first → moved h (d ∷ []) (heads_of tapes heads) ≡ Some (heads_of tapes to)
    unfolding moved heads_of
    one_moved to n = rw (one, sym is ∙ n)
