-- One entry: what its reading answers and leaves is what the definition's step says, and a head is that of a machine that may
-- run.
use Prim.Native.Nat.{ℕ, ◌≤◌}
use mathlib.Core.List.{List}
use mathlib.Core.Path.{◌≡◌, refl, sym, ap, ◌∙◌}
use borrow.Author.Tests.{ltb-false}
use lib.Dec.{ltb}
use lib.ListN.{length}
use Rattle.std.specs.Prelude.{Option, Some, None, Result, Ok, Err, option_map}
use Rattle.machine.specs.declared.Head.{Head}
use Rattle.language.specs.Agreement.{content_of_answer}
use Rattle.language.specs.Outcome as O
use Rattle.language.specs.Outcome.{max_bytes, work_needed, refusal_of, ReadOutcome, read_outcome}
use Rattle.language.proofs.Every.{by_test}
use Rattle.reader_answer.specs.declared.Answer.{Answer}
use Rattle.reader_answer.specs.declared.Answer.TheVariants.{Machine, Diagnostics}
use Rattle.reader_answer.specs.declared.Refusal.{Refusal}
use Rattle.reader_answer.specs.Answer.{refusal_in, read_in}
use Rattle.form_theorems.specs.Read.{ReadAs}
use Rattle.form_theorems.proofs.Readings.{machine-read}
use Rattle.running.specs.Refusals.{unfit_for}
use Rattle.running.specs.Batch as B
use Rattle.running.specs.Batch.{content_of_text, entry_refusal, EntryOutcome, entry_outcome}
use Rattle.running.proofs.Runs.{some_none}
use Rattle.running.proofs.Starts.{fit}
use Rattle.running.proofs.Readings.{not_machine}
use Rattle.runner_names_theorems.proofs.SheetNames.{content_is}
use Rattle.runner_answer.specs.declared.Unfit.{Unfit}
use Rattle.runner_answer.specs.Answer.{unfit_in}
use Rattle.runner.specs.Entry.{Ready, room_of}

-- ---- work

-- a text that is not refused has work enough
enough : (t : List ℕ) (work : ℕ) → refusal_of t work ≡ None → work_needed (length t) ≤ work
unfolding refusal_of
enough t work e = by_test (ltb max_bytes (length t)) (λ a. absurd (some_none (rw (a, refusal_of) at e)))
    (λ a. by_test (ltb work (work_needed (length t))) (λ b. absurd (some_none (rw (a, refusal_of, b) at e)))
    (λ b. ltb-false work (work_needed (length t)) b))

-- and one that reads as a machine is not refused
enough_work : (t : List ℕ) (work : ℕ) (log sheet : List ℕ) (h : Head) → (read_outcome t work log sheet).reply ≡ O.machine h
    → work_needed (length t) ≤ work
unfolding read_outcome
enough_work t work log sheet h e = go (refusal_of t work) refl
  where
    go : (o : Option O.Refusal) → refusal_of t work ≡ o → work_needed (length t) ≤ work
    go (Some r) q = absurd (not_machine r h (rw (read_outcome, q) at e))
    go None q = enough t work q

-- ---- an entry

-- its outcome
abbrev outcome : Option B.EntryRefusal → List ℕ → List ℕ → EntryOutcome
outcome r log sheet = record { refusal = r; log = log; sheet = sheet }

-- the reading call answered a and left the log l and the sheet s
module _ (t : List ℕ) (work : ℕ) (log sheet : List ℕ) (cells : ℕ) (a : Result Answer Refusal) (l s : List ℕ)
    (read : read_in a l s ≡ read_outcome t work log sheet) where
  -- with the answer in the place of the definition's reply
  as_read : (b : Result Answer Refusal) → a ≡ b
      → outcome (entry_refusal (read_in b l s).reply t cells) l s ≡ entry_outcome (room_of work cells) t log sheet
  unfolding entry_outcome
  as_read b e = ap (λ (o : ReadOutcome (List ℕ)). outcome (entry_refusal o.reply t cells) o.log o.sheet) (ap (λ x. read_in x l s) (sym e) ∙ read)

  -- refused by the reader
  pub not_read : (r : Refusal) → a ≡ Err r → outcome (Some (B.not_read (refusal_in r))) l s ≡ entry_outcome (room_of work cells) t log sheet
  unfolding entry_refusal
  not_read r e = as_read (Err r) e

  -- refused for its diagnostics
  pub with_diagnostics : (n : ℕ) → a ≡ Ok (Diagnostics n)
      → outcome (Some (B.diagnostics n)) l s ≡ entry_outcome (room_of work cells) t log sheet
  unfolding entry_refusal
  with_diagnostics n e = as_read (Ok (Diagnostics n)) e

  -- a machine, which was tested
  module _ (h : Head) (e : a ≡ Ok (Machine h)) (u : Option Unfit)
      (tested : option_map unfit_in u ≡ unfit_for (content_of_answer (record { head = h; sheet = s; text = t })) cells) where
    replied : (read_outcome t work log sheet).reply ≡ O.machine h
    replied = sym (ap (λ (o : ReadOutcome (List ℕ)). o.reply) (ap (λ x. read_in x l s) (sym e) ∙ read))

    as_machine : ReadAs t h s
    as_machine = machine-read t work log sheet h l s (ap (λ x. read_in x l s) (sym e) ∙ read)

    unfit_is : option_map unfit_in u ≡ unfit_for (content_of_text t) cells
    unfit_is = tested ∙ ap (λ c. unfit_for c cells) (content_is t h s as_machine)

    pub machine_tested : outcome (option_map (λ x. B.unfit x) (option_map unfit_in u)) l s ≡ entry_outcome (room_of work cells) t log sheet
    unfolding entry_refusal
    machine_tested = ap (λ x. outcome (option_map (λ y. B.unfit y) x) l s) unfit_is ∙ as_read (Ok (Machine h)) e

    pub ready : u ≡ None → Ready t h s work cells
    ready q = record {
      read = as_machine;
      fits = fit (content_of_text t) cells (sym unfit_is ∙ ap (option_map unfit_in) q);
      room = enough_work t work log sheet h replied;
    }
