-- What is printed for a text does not depend on what the log and the sheet held before.
use mathlib.Core.Path.{◌≡◌, refl, ap₂}
use Prim.Native.Nat.{ℕ}
use mathlib.Core.List.{List}
use Rattle.std.specs.Prelude.{Option, None, Some}
use lib.ListN.{length}
use Rattle.chars.specs.Utf8.{decode}
use Rattle.language.specs.Lines.{read_lines}
use Rattle.language.specs.Assembly.{diagnostics}
use Rattle.language.specs.Outcome.{Refusal, refused, ReadOutcome, refusal_of, read_with, read_outcome}
use Rattle.list_lines.specs.Listing.{lines, listing}

module _ (t : List ℕ) (w : ℕ) (l₁ l₂ s₁ s₂ : List ℕ) (e : length l₁ ≡ length l₂) (f : length s₁ ≡ length s₂) where
  -- the outcome of a text that is refused or not
  outcome : Option Refusal → List ℕ → List ℕ → ReadOutcome (List ℕ)
  outcome o l s = elim o [
    | Some r ↦ record { reply = refused r; log = l; sheet = s }
    | None ↦ (let ls = read_lines (decode t) in read_with (diagnostics ls) ls (length l) (length s))
  ]

  refused-or-not : (o : Option Refusal) → listing t (outcome o l₁ s₁) ≡ listing t (outcome o l₂ s₂)
  unfolding outcome listing lines
  refused-or-not (Some r) = refl
  refused-or-not None = ap₂ (λ m n. listing t (read_with (diagnostics (read_lines (decode t))) (read_lines (decode t)) m n)) e f

  pub listing_alone : listing t (read_outcome t w l₁ s₁) ≡ listing t (read_outcome t w l₂ s₂)
  unfolding outcome read_outcome
  listing_alone = refused-or-not (refusal_of t w)
