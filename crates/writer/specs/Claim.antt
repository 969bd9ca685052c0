-- Demand 3 on the calls: what may be concluded from the bytes that `write` leaves, whatever the lent buffers held.
-- L is the type of the log, which the calls take as words or as records.
use Rattle.std.specs.Prelude.{ℕ, ◌≤◌, List, ◌↔◌, ◌≡◌, length, Result, Option}
use Rattle.chars.specs.Utf8.{decode}
use Rattle.language.specs.Agreement as A
use Rattle.language.specs.Lines.{read_lines}
use Rattle.language.specs.Outcome.{work_needed, words_needed, ReadOutcome, WriteOutcome, form_of}
use Rattle.language.specs.Claim.{Writable, form_left, answer_given, BothAgree}
use Rattle.reader_answer.specs.declared.Answer.{Answer}
use Rattle.reader_answer.specs.declared.Refusal.{Refusal}
use Rattle.reader_answer.specs.Answer.{read_in}
use Rattle.writer_answer.specs.declared.WriteAnswer.{WriteAnswer}
use Rattle.writer_answer.specs.declared.WriteRefusal.{WriteRefusal}
use Rattle.writer_answer.specs.Answer.{write_in}

-- the outcome that the contract of `read` names: of a text, how many words of work, and the log and the sheet at entry
abbrev pub Reading : Type 0 → Type 0
Reading L = List ℕ → ℕ → L → List ℕ → ReadOutcome L

-- the outcome that the contract of `write` names: of the same, and the output at entry
abbrev pub Writing : Type 0 → Type 0
Writing L = List ℕ → ℕ → L → List ℕ → List ℕ → WriteOutcome L

-- what a call on a text is lent: work and a sheet long enough, and a log
pub record Lent (L : Type 0) (t : List ℕ) : Type 0 where
  pub work : ℕ
  pub log : L
  pub sheet : List ℕ
  pub work_fits : work_needed (length t) ≤ work
  pub sheet_fits : words_needed (read_lines (decode t)) ≤ length sheet

-- a call of `read` on a text: what it was lent, and what it left, as its contract says
pub record ReadCall {L : Type 0} (outcome : Reading L) (t : List ℕ) : Type 0 where
  pub lent : Lent L t
  pub answer : Result Answer Refusal
  pub log : L
  pub sheet : List ℕ
  pub contract : read_in answer log sheet ≡ outcome t lent.work lent.log lent.sheet

-- a call of `write`, lent an output long enough too
pub record WriteCall {L : Type 0} (outcome : Writing L) (t : List ℕ) : Type 0 where
  pub lent : Lent L t
  pub output_lent : List ℕ
  pub output_fits : length (form_of t) ≤ length output_lent
  pub answer : Result WriteAnswer WriteRefusal
  pub log : L
  pub sheet : List ℕ
  pub output : List ℕ
  pub contract : write_in answer log sheet output ≡ outcome t lent.work lent.log lent.sheet output_lent

-- the head, the sheet and the text, if the answer is a machine
abbrev pub answered : {L : Type 0} {outcome : Reading L} {t : List ℕ} → ReadCall outcome t → Option A.Answer
answered {t} r = answer_given t (read_in r.answer r.log r.sheet)

-- the bytes at the front of the output, as many as `Written` says
abbrev pub form : {L : Type 0} {outcome : Writing L} {t : List ℕ} → WriteCall outcome t → List ℕ
form w = form_left (write_in w.answer w.log w.sheet w.output)

module _ {L : Type 0} (read : Reading L) (write : Writing L) where
  -- what is claimed of two texts and calls on them
  pub record Claim (t u : List ℕ) (r : ReadCall read t) (s : ReadCall read u) (w : WriteCall write t) (x : WriteCall write u)
      : Type 0 where
    -- the forms are equal bytes exactly when the machines that were read agree
    pub forms : (form w ≡ form x) ↔ BothAgree (answered r) (answered s)
    -- the bytes that are written are the text's plain form
    pub form_written : form w ≡ form_of t
    -- the form of a text is itself a text that can be written
    pub form_writable : Writable (form w)
    -- every reading of the form gives a machine that agrees with the text's
    pub form_agrees : (again : ReadCall read (form w)) → BothAgree (answered again) (answered r)

  -- demand 3: for every two texts that are admitted, read without a diagnostic and have forms of at most 4,194,304 bytes,
  -- and all calls on them
  abbrev pub Demand3 : Type 0
  Demand3 = (t u : List ℕ) → Writable t → Writable u →
      (r : ReadCall read t) (s : ReadCall read u) (w : WriteCall write t) (x : WriteCall write u) → Claim t u r s w x
