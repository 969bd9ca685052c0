-- What the head of a text that was read says of its machine.
use mathlib.Core.Path.{◌≡◌, ap, sym, ◌∙◌}
use Prim.Native.Nat.{ℕ, ◌-◌}
use native.Mathlib.Omega.{arith}
use mathlib.Core.Bool.{true}
use mathlib.Core.List.{List, ◌++◌, append-nil}
use mathlib.Core.Logic.{◌⊎◌, inl, inr}
use lib.ListN.{length}
use Rattle.std.specs.Prelude.{None}
use Rattle.machine.specs.declared.Head.{Head}
use Rattle.language.specs.Content.{Content}
use Rattle.language.specs.Layout.{no_place, head_of, sheet_words}
use Rattle.language.specs.Agreement.{characters_at, string_at, content_of_answer}
use Rattle.language.specs.Outcome.{admitted, zeros}
use Rattle.form_theorems.specs.Read.{machine_in, ReadAs}
use Rattle.running.specs.Batch.{content_of_text}
use Rattle.runner_names_theorems.specs.Names.{NamePlace}
use Rattle.runner_names_theorems.proofs.SheetNames.{content_is, start_named}

-- a head says what a run asks of a machine
pub record Says (t : List ℕ) (head : Head) (m : Content) : Type 0 where
  pub tapes : m.tapes ≡ head.tapes
  pub blank : m.blank ≡ head.blank
  pub input : m.input ≡ string_at t head.input
  pub start : m.start ≡ characters_at t head.start

module _ (t : List ℕ) (ok : admitted t ≡ true) (head : Head) (e : head ≡ head_of (machine_in t)) where
  -- a sheet with room for the machine's words and no more
  read : ReadAs t head (sheet_words (machine_in t))
  read =
      let ws = sheet_words (machine_in t) in
      let z : length ws - length ws ≡ 0 = omega arith in
      record {
        is_admitted = ok;
        head_is = e;
        sheet_is = sym (ap (λ n. ws ++ zeros n) z ∙ append-nil ws);
        sheet_fits = omega arith;
      }

  pub head_says : Says t head (content_of_text t)
  unfolding content_of_answer
  head_says =
      let is = content_is t head (sheet_words (machine_in t)) read in
      record {
        tapes = ap (λ c. c.tapes) (sym is);
        blank = ap (λ c. c.blank) (sym is);
        input = ap (λ c. c.input) (sym is);
        start = ap (λ c. c.start) (sym is);
      }

  -- the place of the start, if there is one, is that of a name
  pub head_named : (head.start ≡ no_place → ⊥) → NamePlace (machine_in t) head.start
  head_named n = go (start_named t head (sheet_words (machine_in t)) read)
    where
      go : ((machine_in t).start ≡ None) × (head.start ≡ no_place) ⊎ NamePlace (machine_in t) head.start
          → NamePlace (machine_in t) head.start
      go (inl p) = absurd (n p.1)
      go (inr p) = p
