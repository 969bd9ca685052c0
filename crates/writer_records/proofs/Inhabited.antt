-- The claim on the calls with a log of records is not empty: P1 has a call of each kind, lent records that hold other numbers;
-- and every text of the claim's kind has a call of `read`.
use Prim.Native.Nat.{ℕ}
use mathlib.Core.List.{List, [], ◌∷◌, ◌++◌}
use mathlib.Core.Path.{refl, ap}
use native.Mathlib.Omega.{arith}
use lib.ListN.{replicate}
use Rattle.chars.specs.Utf8.{decode}
use Rattle.diag.specs.declared.Diagnostic.{Diagnostic}
use Rattle.diag.specs.Log.{flat, records}
use Rattle.diag_records.specs.Unused.{unused}
use Rattle.language.specs.Lines.{read_lines}
use Rattle.language.specs.Outcome.{words_needed, form_of, ReadOutcome}
use Rattle.language.specs.Claim.{Writable, BothAgree}
use Rattle.language.proofs.Samples.{bytes}
use Rattle.std.specs.Prelude.{Ok}
use Rattle.reader_answer.specs.declared.Answer.TheVariants.{Machine}
use Rattle.reader_steps.specs.Records.{read_records}
use Rattle.writer_answer.specs.declared.WriteAnswer.TheVariants.{Written}
use Rattle.writer.proofs.Inhabited as Words
use Rattle.writer.proofs.Inhabited.{text, plain, writable, head, sheet}
use Rattle.writer_records.specs.Records.{write_records}
use Rattle.writer.specs.Claim.{ReadCall, WriteCall, form, answered, Claim}
use Rattle.writer_records.proofs.Claim.{claim}

-- a record as no call leaves one
dirty : Diagnostic
dirty = record { code = 7; span = record { start = 7; end = 7 }; related = record { start = 7; end = 7 } }

-- a call of `read`, lent a log of two records and a sheet of two words more than it needs
pub read_call : ReadCall read_records text
unfolding dirty words_needed read_lines decode read_records
read_call = record {
  lent = record { work = 126; log = replicate 2 dirty; sheet = replicate 59 7; work_fits = omega arith; sheet_fits = omega arith };
  answer = Ok (Machine head);
  log = replicate 2 unused;
  sheet = sheet ++ 0 ∷ 0 ∷ [];
  contract = refl;
}

-- a call of `write`, lent an output of two bytes more than the form
pub write_call : WriteCall write_records text
unfolding dirty words_needed read_lines decode form_of write_records bytes
write_call = record {
  lent = record { work = 126; log = replicate 2 dirty; sheet = replicate 57 7; work_fits = omega arith; sheet_fits = omega arith };
  output_lent = replicate 129 7;
  output_fits = omega arith;
  answer = Ok (Written 127);
  log = replicate 2 unused;
  sheet = sheet;
  output = bytes plain ++ 7 ∷ 7 ∷ [];
  contract = refl;
}

-- the claim of these calls, so that it speaks of something
pub claimed : Claim read_records write_records text text read_call read_call write_call write_call
claimed = claim text text writable writable read_call read_call write_call write_call

-- the call on words that every text of the claim's kind has is one with a log of no records
pub reads : (t : List ℕ) → Writable t → ReadCall read_records t
unfolding read_records flat records Words.reads
reads t good = let r = Words.reads t good in record {
  lent = record { work = r.lent.work; log = []; sheet = r.lent.sheet; work_fits = r.lent.work_fits; sheet_fits = r.lent.sheet_fits };
  answer = r.answer;
  log = [];
  sheet = r.sheet;
  contract = ap (λ (o : ReadOutcome (List ℕ)). record { reply = o.reply; log = records 0 o.log; sheet = o.sheet }) r.contract;
}

-- the form of P1 is read again, as a machine that agrees
pub agrees : BothAgree (answered (reads (form write_call) claimed.form_writable)) (answered read_call)
agrees = claimed.form_agrees (reads (form write_call) claimed.form_writable)
