-- What is printed of a text does not depend on what the log and the sheet held before, nor of a machine on what they hold then.
use mathlib.Core.Path.{◌≡◌, refl, ap₂}
use Prim.Native.Nat.{ℕ}
use mathlib.Core.List.{List, []}
use Rattle.std.specs.Prelude.{Option, None, Some}
use lib.ListN.{length}
use Rattle.chars.specs.Utf8.{decode}
use Rattle.machine.specs.declared.Head.{Head}
use Rattle.language.specs.Lines.{read_lines}
use Rattle.language.specs.Assembly.{diagnostics}
use Rattle.language.specs.Outcome.{Refusal, machine, refused, ReadOutcome, refusal_of, read_with, read_outcome}
use Rattle.running.specs.Refusals.{Unfit, unfit_for}
use Rattle.running.specs.Batch.{content_of_text, entry_refusal}
use Rattle.run_lines.specs.Printed.{refusal_lines, lines}

module _ (t : List ℕ) (steps cells : ℕ) where
  module _ (w : ℕ) (l₁ l₂ s₁ s₂ : List ℕ) (e : length l₁ ≡ length l₂) (f : length s₁ ≡ length s₂) where
    -- the outcome of a text that is refused or not
    outcome : Option Refusal → List ℕ → List ℕ → ReadOutcome (List ℕ)
    outcome o l s = elim o [
      | Some r ↦ record { reply = refused r; log = l; sheet = s }
      | None ↦ (let ls = read_lines (decode t) in read_with (diagnostics ls) ls (length l) (length s))
    ]

    refused-or-not : (o : Option Refusal) → lines t steps cells (outcome o l₁ s₁) ≡ lines t steps cells (outcome o l₂ s₂)
    unfolding outcome lines entry_refusal refusal_lines
    refused-or-not (Some r) = refl
    refused-or-not None = ap₂ (λ m n. lines t steps cells (read_with (diagnostics (read_lines (decode t))) (read_lines (decode t)) m n)) e f

    pub lines_alone : lines t steps cells (read_outcome t w l₁ s₁) ≡ lines t steps cells (read_outcome t w l₂ s₂)
    unfolding outcome read_outcome
    lines_alone = refused-or-not (refusal_of t w)

  pub machine_alone : (h : Head) (l s : List ℕ)
      → lines t steps cells (record { reply = machine h; log = l; sheet = s }) ≡ lines t steps cells (record { reply = machine h; log = []; sheet = [] })
  unfolding lines entry_refusal refusal_lines
  machine_alone h l s = go (unfit_for (content_of_text t) cells) refl
    where
      go : (o : Option Unfit) → unfit_for (content_of_text t) cells ≡ o
          → lines t steps cells (record { reply = machine h; log = l; sheet = s }) ≡ lines t steps cells (record { reply = machine h; log = []; sheet = [] })
      go (Some u) e = rw (lines, entry_refusal, e)
      go None e = rw (lines, entry_refusal, e)
