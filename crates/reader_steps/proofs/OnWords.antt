-- A reading call over records is the call on words with the same answer and the same sheet, the words of whose log are the
-- records.
use mathlib.Core.Path.{◌≡◌, ap, ap₂}
use mathlib.Core.List.{List}
use Prim.Native.Nat.{ℕ}
use lib.ListN.{length}
use Rattle.diag.specs.declared.Diagnostic.{Diagnostic}
use Rattle.diag.specs.Records.{flat, records}
use Rattle.language.specs.Outcome.{ReadOutcome, read_outcome}
use Rattle.std.specs.Prelude.{Result}
use Rattle.reader_answer.specs.declared.Answer.{Answer}
use Rattle.reader_answer.specs.declared.Refusal.{Refusal}
use Rattle.reader_answer.specs.Answer.{read_in}
use Rattle.reader_steps.specs.Records.{read_records}

-- the call answered a and left the log l and the sheet s
module _ (t : List ℕ) (work : ℕ) (log : List Diagnostic) (sheet : List ℕ) (a : Result Answer Refusal) (l : List Diagnostic) (s : List ℕ) (read : read_in a l s ≡ read_records t work log sheet) where
  -- the call on words
  abbrev pub o : ReadOutcome (List ℕ)
  o = read_outcome t work (flat log) sheet

  pub on-words : read_in a o.log s ≡ o
  unfolding read_records
  on-words =
      ap₂ (λ r x. record { reply = r; log = o.log; sheet = x }) (ap (λ (q : ReadOutcome (List Diagnostic)). q.reply) read) (ap (λ (q : ReadOutcome (List Diagnostic)). q.sheet) read)

  pub log_is : l ≡ records (length log) o.log
  unfolding read_records
  log_is = ap (λ (q : ReadOutcome (List Diagnostic)). q.log) read
