-- What the code answers, as the definition's reply: paper 01's number and value of each case are those of the reply.
use Rattle.std.specs.Prelude.{ℕ, Bool, List, Result, Ok, Err}
use Rattle.language.specs.Outcome as O
use Rattle.reader_answer.specs.declared.Refusal.{Refusal}
use Rattle.reader_answer.specs.declared.Refusal.TheVariants.{TextTooLong, WorkTooShort, InvalidUtf8, OutsideSet, LogTooShort, SheetTooShort}
use Rattle.reader_answer.specs.declared.Answer.{Answer}
use Rattle.reader_answer.specs.declared.Answer.TheVariants.{Machine, Diagnostics}

-- a refusal: rows 1 to 6
abbrev pub refusal_in : Refusal → O.Refusal
refusal_in TextTooLong = O.text_too_long
refusal_in WorkTooShort = O.work_too_short
refusal_in (InvalidUtf8 o) = O.invalid_utf8 o
refusal_in (OutsideSet o) = O.outside_set o
refusal_in (LogTooShort n) = O.log_too_short n
refusal_in (SheetTooShort n) = O.sheet_too_short n

-- the reply
abbrev pub reply_in : Result Answer Refusal → O.Reply
reply_in (Ok (Machine h)) = O.machine h
reply_in (Ok (Diagnostics n)) = O.diagnosed n
reply_in (Err r) = O.refused (refusal_in r)

-- the answer, and the log and the sheet that are left with it
abbrev pub read_in : {L : Type 0} → Result Answer Refusal → L → List ℕ → O.ReadOutcome L
read_in a log sheet = record { reply = reply_in a; log = log; sheet = sheet }

-- whether an answer leaves work untouched
abbrev pub leaves_work : Result Answer Refusal → Bool
leaves_work a = O.leaves_work_number (O.reply_number (reply_in a))
