-- Without a start a machine is stuck where it stands: the name of its state is empty, and no state and no rule has that name.
use mathlib.Core.Path.{◌≡◌, ap, ap₂, sym, ◌∙◌}
use Prim.Native.Nat.{ℕ, ◌≤◌}
use native.Mathlib.Omega.{arith}
use mathlib.Core.Bool.{Bool, true, false, ◌&&◌, false≢true}
use mathlib.Core.List.{List, []}
use lib.Dec.{eqb}
use lib.ListN.{length, drop_of_length-le}
use lib.Seq.{take-nil}
use borrow.Author.Tests.{eqb-true}
use Rattle.chars.proofs.Laws.{decode-nil}
use Rattle.lexer.specs.Tokens.{Span, span}
use Rattle.language.specs.Layout.{no_place}
use Rattle.language.specs.Agreement.{characters_at}
use Rattle.language.specs.Outcome.{admitted}
use Rattle.language.proofs.Claim.{is_short}
use Rattle.language.proofs.Every.{and_left, and_right}
use Rattle.running.specs.Tape.{Configuration}
use Rattle.running.specs.Step.{scanned}
use Rattle.running.specs.Run.{stuck, due_in, due, stopped, run_from}
use Rattle.running.specs.Batch.{content_of_text}
use Rattle.running.proofs.Runs.{run_rests}
use Rattle.running.proofs.NoStart.{text_good, due_nowhere}

module _ (p : Span) where
  abbrev nowhere : Bool
  nowhere = eqb p.start 4294967295 && eqb p.end 4294967295

  pub is_nowhere : nowhere ≡ true → p ≡ no_place
  is_nowhere e =
      let a = eqb-true p.start 4294967295 (and_left (eqb p.start 4294967295) (eqb p.end 4294967295) e) in
      let b = eqb-true p.end 4294967295 (and_right (eqb p.start 4294967295) (eqb p.end 4294967295) e) in
      ap₂ span a b

  pub is_somewhere : nowhere ≡ false → p ≡ no_place → ⊥
  is_somewhere e q = false≢true (sym e ∙ ap (λ (s : Span). eqb s.start 4294967295 && eqb s.end 4294967295) q)

module _ (t : List ℕ) (ok : admitted t ≡ true) (p : Span) (e : p ≡ no_place) where
  no_characters : characters_at t p ≡ []
  unfolding characters_at
  no_characters =
      let l : length t ≤ p.start = rw e (omega (arith, is_short t ok)) in
      rw (drop_of_length-le t l, take-nil) decode-nil

  pub run_nowhere : (h n : ℕ) (c : Configuration) → c.state ≡ characters_at t p
      → run_from (content_of_text t) h n c ≡ stopped stuck c
  unfolding due
  run_nowhere h n c q =
      let m = content_of_text t in
      let symbols = scanned h 0 c.heads c.cells in
      run_rests m h n c stuck (ap (λ s. due_in m s symbols) (q ∙ no_characters) ∙ due_nowhere m symbols (text_good t ok))
