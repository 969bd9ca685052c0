-- Request 9 on the calls with a log of records: each is a call on words with the same answer and the same sheet.
use mathlib.Core.List.{List}
use Prim.Native.Nat.{ℕ}
use Rattle.diag.specs.Records.{flat}
use Rattle.language.specs.Outcome.{read_outcome}
use Rattle.reader_steps.specs.Records.{read_records}
use Rattle.reader_steps.proofs.OnWords.{on-words}
use Rattle.reader_claims.specs.Claim.{Call, InferredOnce}
use Rattle.reader_claims.proofs.Claim as Words

-- the call on words
abbrev read : {t : List ℕ} → Call read_records t → Call read_outcome t
read {t} r = record {
  work = r.work;
  log_lent = flat r.log_lent;
  sheet_lent = r.sheet_lent;
  answer = r.answer;
  log = (read_outcome t r.work (flat r.log_lent) r.sheet_lent).log;
  sheet = r.sheet;
  contract = on-words t r.work r.log_lent r.sheet_lent r.answer r.log r.sheet r.contract;
}

pub claim : InferredOnce read_records
claim = record {
  twice = Words.claim.twice;
  text_infers = Words.claim.text_infers;
  text_inferred = Words.claim.text_inferred;
  call_infers = λ t r. Words.claim.call_infers t (read r);
  call_inferred = λ t r. Words.claim.call_inferred t (read r);
}
