-- The answer of a reading call handed on: a machine's form is written, and everything else is as it was.
use Rattle.std.specs.Prelude.{Result, Ok, Err}
use Prim.Native.Nat.{ℕ}
use mathlib.Core.Bool.{false, ◌||◌}
use mathlib.Core.List.{List, []}
use mathlib.Core.Path.{◌≡◌, refl, sym, ap, ◌∙◌}
use lib.Dec.{ltb}
use lib.ListN.{length}
use Rattle.language.specs.Outcome as O
use Rattle.language.specs.Outcome.{max_bytes, ReadOutcome, form_of, write_form, write_with, WriteOutcome}
use Rattle.language.proofs.Every.{by_test}
use Rattle.machine.specs.declared.Head.{Head}
use Rattle.reader_answer.specs.declared.Answer.{Answer}
use Rattle.reader_answer.specs.declared.Answer.TheVariants.{Machine, Diagnostics}
use Rattle.reader_answer.specs.declared.Refusal.{Refusal}
use Rattle.reader_answer.specs.Answer as R
use Rattle.writer_answer.specs.declared.WriteAnswer.{WriteAnswer}
use Rattle.writer_answer.specs.declared.WriteAnswer.TheVariants as W
use Rattle.writer_answer.specs.declared.WriteRefusal.{WriteRefusal}
use Rattle.writer_answer.specs.declared.WriteRefusal.TheVariants.{Reading}
use Rattle.writer_answer.specs.Answer.{write_reply_in, write_in, leaves_work}

-- what a call answers
abbrev Said : Type 0
Said = Result WriteAnswer WriteRefusal

-- what `write_form` shows
abbrev Formed : List ℕ → Said → List ℕ → List ℕ → Type 0
Formed form r output output' = (x : ReadOutcome (List ℕ)) → write_in r x.log x.sheet output' ≡ write_form form x output

-- a form or row 7 leaves work to the program
form_leaves : (form output : List ℕ) (x : ReadOutcome (List ℕ)) → leaves_work (write_form form x output).reply ≡ false
unfolding write_form
form_leaves form output x = by_test (ltb (length output) (length form) || ltb max_bytes (length form)) (λ e. rw (e, write_form)) (λ e. rw (e, write_form))

-- an answer a of reading with the sheet s, handed on
module _ (t : List ℕ) (a : Result Answer Refusal) (s output : List ℕ) where
  -- a machine
  pub machine-written : (h : Head) → a ≡ Ok (Machine h) → (r : Said) (output' : List ℕ) → Formed (form_of t) r output output' → (l : List ℕ) → write_in r l s output' ≡ write_with (R.read_in a l s) (form_of t) output
  unfolding write_with
  machine-written h e r output' f l = f (R.read_in (Ok (Machine h)) l s) ∙ ap (λ x. write_with (R.read_in x l s) (form_of t) output) (sym e)

  -- diagnostics
  pub diagnostics_handed : (n : ℕ) → a ≡ Ok (Diagnostics n) → (l : List ℕ) → write_in (Ok (W.Diagnostics n)) l s output ≡ write_with (R.read_in a l s) (form_of t) output
  unfolding write_with
  diagnostics_handed n e l = ap (λ x. write_with (R.read_in x l s) (form_of t) output) (sym e)

  -- a refusal of reading is one of writing
  pub refusal_handed : (x : Refusal) → a ≡ Err x → (l : List ℕ) → write_in (Err (Reading x)) l s output ≡ write_with (R.read_in a l s) (form_of t) output
  unfolding write_with
  refusal_handed x e l = ap (λ y. write_with (R.read_in y l s) (form_of t) output) (sym e)

-- ---- work

pub form_touches : (form output output' : List ℕ) (r : Said) → Formed form r output output' → leaves_work (write_reply_in r) ≡ false
form_touches form output output' r f =
    let x : ReadOutcome (List ℕ) = record { reply = O.diagnosed 0; log = []; sheet = [] } in
    ap (λ (o : WriteOutcome (List ℕ)). leaves_work o.reply) (f x) ∙ form_leaves form output x
