-- Demand 3 on the calls with a log of records: each is a call on words with the same answer, sheet and output, of which the claim
-- is known.
use mathlib.Core.List.{List}
use mathlib.Core.Path.{◌≡◌, ap}
use Prim.Native.Nat.{ℕ}
use Rattle.diag.specs.declared.Diagnostic.{Diagnostic}
use Rattle.diag.specs.Records.{flat}
use Rattle.language.specs.Outcome.{read_outcome, WriteOutcome, write_outcome}
use Rattle.reader_steps.specs.Records.{read_records}
use Rattle.reader_steps.proofs.OnWords.{on-words}
use Rattle.writer_answer.specs.Answer.{write_in}
use Rattle.writer.specs.Claim.{Lent, ReadCall, WriteCall, Claim, Demand3}
use Rattle.writer.proofs.Claim as Words
use Rattle.writer_records.specs.Records.{write_records}

-- what a call is lent, its log as words
abbrev lent : {t : List ℕ} → Lent (List Diagnostic) t → Lent (List ℕ) t
lent b = record { work = b.work; log = flat b.log; sheet = b.sheet; work_fits = b.work_fits; sheet_fits = b.sheet_fits }

-- the call of `read` on words
abbrev read : {t : List ℕ} → ReadCall read_records t → ReadCall read_outcome t
read {t} r = record {
  lent = lent r.lent;
  answer = r.answer;
  log = (read_outcome t r.lent.work (flat r.lent.log) r.lent.sheet).log;
  sheet = r.sheet;
  contract = on-words t r.lent.work r.lent.log r.lent.sheet r.answer r.log r.sheet r.contract;
}

-- the outcome of a call of `write` on words
abbrev written : {t : List ℕ} → WriteCall write_records t → WriteOutcome (List ℕ)
written {t} w = write_outcome t w.lent.work (flat w.lent.log) w.lent.sheet w.output_lent

same : {t : List ℕ} (w : WriteCall write_records t) → write_in w.answer (written w).log w.sheet w.output ≡ written w
unfolding write_records
same {t} w = ap (λ (q : WriteOutcome (List Diagnostic)). record { reply = q.reply; log = (written w).log; sheet = q.sheet; output = q.output }) w.contract

-- the call of `write` on words
abbrev write : {t : List ℕ} → WriteCall write_records t → WriteCall write_outcome t
write {t} w = record {
  lent = lent w.lent;
  output_lent = w.output_lent;
  output_fits = w.output_fits;
  answer = w.answer;
  log = (written w).log;
  sheet = w.sheet;
  output = w.output;
  contract = same w;
}

pub claim : Demand3 read_records write_records
claim t u good fine r s w x =
    let known : Claim read_outcome write_outcome t u (read r) (read s) (write w) (write x) = Words.claim t u good fine (read r) (read s) (write w) (write x) in
    record { forms = known.forms; form_written = known.form_written; form_writable = known.form_writable; form_agrees = λ again. known.form_agrees (read again) }
