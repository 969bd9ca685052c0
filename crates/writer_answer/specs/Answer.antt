-- What the code answers, as the definition's reply: paper 01's number and value of each case are those of the reply.
use Rattle.std.specs.Prelude.{ℕ, Bool, List, Result, Ok, Err}
use Rattle.language.specs.Outcome as O
use Rattle.reader_answer.specs.Answer as R
use Rattle.writer_answer.specs.declared.WriteAnswer.{WriteAnswer}
use Rattle.writer_answer.specs.declared.WriteAnswer.TheVariants.{Written, Diagnostics}
use Rattle.writer_answer.specs.declared.WriteRefusal.{WriteRefusal}
use Rattle.writer_answer.specs.declared.WriteRefusal.TheVariants.{Reading, OutputTooShort}

-- a refusal: rows 1 to 7
abbrev pub refusal_in : WriteRefusal → O.Refusal
refusal_in (Reading r) = R.refusal_in r
refusal_in (OutputTooShort n) = O.output_too_short n

-- the reply: its number and value are `write_number` and `write_value` of it
abbrev pub write_reply_in : Result WriteAnswer WriteRefusal → O.WriteReply
write_reply_in (Ok (Written n)) = O.written n
write_reply_in (Ok (Diagnostics n)) = O.not_written n
write_reply_in (Err r) = O.not_read (refusal_in r)

-- the answer, and the log, the sheet and the output that are left with it
abbrev pub write_in : {L : Type 0} → Result WriteAnswer WriteRefusal → L → List ℕ → List ℕ → O.WriteOutcome L
write_in a log sheet output = record { reply = write_reply_in a; log = log; sheet = sheet; output = output }

-- whether a reply leaves work untouched
abbrev pub leaves_work : O.WriteReply → Bool
leaves_work r = O.leaves_work_number (O.write_number r)
