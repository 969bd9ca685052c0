-- A writing call on records by the reading call on records in it: both are the calls on words, the log's words taken as records.
use Prim.Native.Nat.{ℕ}
use mathlib.Core.List.{List}
use mathlib.Core.Path.{◌≡◌, ap, ◌∙◌}
use lib.ListN.{length}
use Rattle.diag.specs.declared.Diagnostic.{Diagnostic}
use Rattle.diag.specs.Log.{records, flat}
use Rattle.language.specs.Outcome as O
use Rattle.language.specs.Outcome.{form_of, write_with}
use Rattle.machine.specs.declared.Head.{Head}
use Rattle.std.specs.Prelude.{Result, Ok}
use Rattle.reader_answer.specs.declared.Answer.{Answer}
use Rattle.reader_answer.specs.declared.Refusal.{Refusal}
use Rattle.reader_answer.specs.declared.Answer.TheVariants.{Machine}
use Rattle.reader_answer.specs.Answer as R
use Rattle.reader_steps.specs.Records.{read_records}
use Rattle.reader_steps.proofs.OnWords as Q
use Rattle.form_theorems.specs.Read.{ReadAs}
use Rattle.writer_answer.specs.declared.WriteAnswer.{WriteAnswer}
use Rattle.writer_answer.specs.declared.WriteRefusal.{WriteRefusal}
use Rattle.writer_answer.specs.Answer.{write_in}
use Rattle.writer.proofs.Calls.{machine_was_read, answer-written}
use Rattle.writer_records.specs.Records.{write_records}

-- an outcome of writing on words as one over n records
abbrev of_words : ℕ → O.WriteOutcome (List ℕ) → O.WriteOutcome (List Diagnostic)
of_words n o = record { reply = o.reply; log = records n o.log; sheet = o.sheet; output = o.output }

-- the reading call answered a and left the log l and the sheet s
module _ (t : List ℕ) (work : ℕ) (log : List Diagnostic) (sheet : List ℕ) (a : Result Answer Refusal) (l : List Diagnostic) (s : List ℕ) (read : R.read_in a l s ≡ read_records t work log sheet) where
  abbrev o : O.ReadOutcome (List ℕ)
  o = Q.o t work log sheet a l s read

  on-words : R.read_in a o.log s ≡ o
  on-words = Q.on-words t work log sheet a l s read

  pub was_read : (h : Head) → a ≡ Ok (Machine h) → ReadAs t h s
  was_read = machine_was_read t work (flat log) sheet a o.log s on-words

  pub written : (r : Result WriteAnswer WriteRefusal) (output output' : List ℕ) → ((k : List ℕ) → write_in r k s output' ≡ write_with (R.read_in a k s) (form_of t) output) → write_in r l s output' ≡ write_records t work log sheet output
  unfolding write_records
  written r output output' f =
      ap (λ k. write_in r k s output') (Q.log_is t work log sheet a l s read) ∙ ap (of_words (length log)) (answer-written t work (flat log) sheet a o.log s on-words r output output' f)
