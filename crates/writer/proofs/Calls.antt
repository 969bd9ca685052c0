-- A writing call by the answer of the reading call in it.
use Prim.Native.Nat.{ℕ}
use mathlib.Core.List.{List}
use mathlib.Core.Path.{◌≡◌, refl, sym, ap, ◌∙◌}
use Rattle.language.specs.Outcome.{read_outcome, form_of, write_with, write_outcome}
use Rattle.machine.specs.declared.Head.{Head}
use Rattle.std.specs.Prelude.{Result, Ok}
use Rattle.reader_answer.specs.declared.Answer.{Answer}
use Rattle.reader_answer.specs.declared.Refusal.{Refusal}
use Rattle.reader_answer.specs.declared.Answer.TheVariants.{Machine}
use Rattle.reader_answer.specs.Answer as R
use Rattle.form_theorems.specs.Read.{ReadAs}
use Rattle.form_theorems.proofs.Readings.{machine-read}
use Rattle.writer_answer.specs.declared.WriteAnswer.{WriteAnswer}
use Rattle.writer_answer.specs.declared.WriteRefusal.{WriteRefusal}
use Rattle.writer_answer.specs.Answer.{write_in}

-- the reading call answered a and left the log l and the sheet s
module _ (t : List ℕ) (work : ℕ) (log sheet : List ℕ) (a : Result Answer Refusal) (l s : List ℕ) (read : R.read_in a l s ≡ read_outcome t work log sheet) where
  pub machine_was_read : (h : Head) → a ≡ Ok (Machine h) → ReadAs t h s
  machine_was_read h e = machine-read t work log sheet h l s (ap (λ x. R.read_in x l s) (sym e) ∙ read)

  pub answer-written : (r : Result WriteAnswer WriteRefusal) (output output' : List ℕ) → ((k : List ℕ) → write_in r k s output' ≡ write_with (R.read_in a k s) (form_of t) output) → write_in r l s output' ≡ write_outcome t work log sheet output
  unfolding write_outcome
  answer-written r output output' f = f l ∙ ap (λ x. write_with x (form_of t) output) read
