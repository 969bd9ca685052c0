-- One step, by its tests: the rule that is due with so many steps left, and where the heads go.
use mathlib.Core.Path.{◌≡◌, refl, ap, ap₂, sym, ◌∙◌}
use Prim.Native.Nat.{ℕ, zero, suc, ◌-◌}
use native.Mathlib.Omega.{arith}
use mathlib.Core.List.{List, map}
use Rattle.std.specs.Prelude.{Option, Some, None, option_map, Result, Ok, Err}
use Rattle.lexer.specs.Tokens.{Span}
use Rattle.language.specs.Machine.{Dir}
use Rattle.language.specs.Content.{RuleContent, Content}
use Rattle.language.specs.Agreement.{characters_at}
use Rattle.running.specs.Tape.{Configuration}
use Rattle.running.specs.Step.{scanned, moved, moved_by, written_under, applied}
use Rattle.running.specs.Run as Run
use Rattle.running.specs.Run.{Due, stops, applies, due, due_in, step_from}
use Rattle.running.specs.Batch.{content_of_text}
use Rattle.running.proofs.Runs.{step_rests, step_spent, step_leaves, step_goes}
use Rattle.runner_tapes.specs.declared.Heads.{Heads}
use Rattle.runner_tapes.specs.Shown.{heads_of, Stands}
use Rattle.runner_tapes.proofs.Kept.{moved_stands}
use Rattle.runner_rules.specs.declared.search.Rules.{Rules}
use Rattle.runner_loop.specs.declared.Standing.{Standing}
use Rattle.runner_loop.specs.Steps.{configured, due_with}

-- `left`: how many steps are left
module _ (r : Rules) (h : ℕ) (at : Standing) (cells : List ℕ) (left : ℕ) where
  abbrev m : Content
  m = content_of_text r.text.now

  abbrev c : Configuration
  c = configured r at cells

  -- what the heads are moved to by directions
  abbrev moved_to : List Dir → Option (List ℕ)
  moved_to dirs = moved h dirs (heads_of r.tapes at.heads)

  -- a step of the definition answers so
  abbrev Is : Result Configuration Run.Stop → Type 0
  Is answer = answer ≡ step_from m h left c

  -- what is due is what the rules answer for the state and the symbols under the heads
  module _ (symbols : List ℕ) (e : symbols ≡ scanned h 0 (heads_of r.tapes at.heads) cells) (name : Span)
      (i : name ≡ at.state) where
    abbrev Answers : Result RuleContent Run.Stop → Type 0
    Answers a = a ≡ due_with (due_in m (characters_at r.text.now name) symbols) left

    due_is : due_in m (characters_at r.text.now name) symbols ≡ due m h c
    unfolding due
    due_is = ap₂ (λ p l. due_in m (characters_at r.text.now p) l) i e

    pub rests : (stop : Run.Stop) → Answers (Err stop) → Is (Err stop)
    rests stop f = go (due m h c) left refl (f ∙ ap (λ d. due_with d left) due_is)
      where
        go : (d : Due) (n : ℕ) → due m h c ≡ d → Err stop ≡ due_with d n → Err stop ≡ step_from m h n c
        go (stops s) n p q = let k : stop ≡ s = cc in ap Err k ∙ sym (step_rests m h n c s p)
        go (applies rule) zero p q = let k : stop ≡ Run.spent = cc in ap Err k ∙ sym (step_spent m h c rule p)
        go (applies rule) (suc n) p q = absurd cc

    module _ (rule : RuleContent) (f : Answers (Ok rule)) where
      applies_here : (due m h c ≡ applies rule) × (left ≡ 0 → ⊥)
      applies_here = go (due m h c) left (f ∙ ap (λ d. due_with d left) due_is)
        where
          go : (d : Due) (n : ℕ) → Ok rule ≡ due_with d n → (d ≡ applies rule) × (n ≡ 0 → ⊥)
          go (stops s) n q = absurd cc
          go (applies other) zero q = absurd cc
          go (applies other) (suc n) q = let k : other ≡ rule = cc in (ap applies k, λ z. absurd (omega (arith, z)))

      module _ (dirs : List Dir) (p : dirs ≡ map (λ a. a.dir) rule.actions) where
        moves : moved_by h rule c ≡ moved_to dirs
        unfolding moved_by
        moves = sym (ap moved_to p)

        one_left : suc (left - 1) ≡ left
        one_left = let z = applies_here.1 in omega arith

        pub leaves : moved_to dirs ≡ None → Is (Err Run.edge)
        leaves n =
            sym (ap (λ n. step_from m h n c) (sym one_left)
            ∙ step_leaves m h (left - 1) c rule applies_here.0 (moves ∙ n))

        module _ (heads : Heads) (n : moved_to dirs ≡ Some (heads_of r.tapes heads)) (writes : List ℕ)
            (u : writes ≡ map (λ a. a.write) rule.actions) (after : List ℕ)
            (v : after ≡ written_under h 0 writes (heads_of r.tapes at.heads) cells)
            (to : Span) (k : characters_at r.text.now to ≡ rule.to) where
          abbrev next : Standing
          next = record { state = to; heads = heads }

          lands : applied h rule (heads_of r.tapes heads) c ≡ configured r next after
          unfolding applied
          lands = rw (v, u, k)

          pub goes : Is (Ok (configured r next after))
          goes =
              sym (ap (λ n. step_from m h n c) (sym one_left)
              ∙ step_goes m h (left - 1) c rule (heads_of r.tapes heads) applies_here.0 (moves ∙ n)
              ∙ ap {B = Result Configuration Run.Stop} Ok lands)

-- heads that were moved stand
pub step_stands : (tapes h : ℕ) (at heads : Heads) (dirs : List Dir)
    → moved h dirs (heads_of tapes at) ≡ Some (heads_of tapes heads) → Stands tapes h at → Stands tapes h heads
step_stands tapes h at heads dirs n v = moved_stands tapes h dirs at heads v (sym n)

-- where the code answers with heads, it answers as the definition does
module _ (tapes : ℕ) (o : Option Heads) (l : Option (List ℕ)) (q : option_map (heads_of tapes) o ≡ l) where
  pub left_none : o ≡ None → l ≡ None
  left_none n = sym q ∙ ap (option_map (heads_of tapes)) n

  pub moved_some : (heads : Heads) → o ≡ Some heads → l ≡ Some (heads_of tapes heads)
  moved_some heads n = sym q ∙ ap (option_map (heads_of tapes)) n
