-- Request 9 on the calls: `infer` on the machine that a call of `read` answers gives it back, whatever the call was lent.
-- L is the type of the log, which the calls take as words or as records.
use Rattle.std.specs.Prelude.{ℕ, List, ◌≡◌, Result, Option, None, Some}
use Rattle.chars.specs.Utf8.{decode}
use Rattle.language.specs.Agreement as A
use Rattle.language.specs.Agreement.{content_of_answer}
use Rattle.language.specs.Lines.{read_lines}
use Rattle.language.specs.Inference.{infer, assembled, InferTwice, ReadInfers, ReadInferred}
use Rattle.language.specs.Outcome.{ReadOutcome}
use Rattle.language.specs.Claim.{answer_given}
use Rattle.reader_answer.specs.declared.Answer.{Answer}
use Rattle.reader_answer.specs.declared.Refusal.{Refusal}
use Rattle.reader_answer.specs.Answer.{read_in}

-- the outcome that the contract of `read` names: of a text, how many words of work, and the log and the sheet at entry
abbrev pub Outcome : Type 0 → Type 0
Outcome L = List ℕ → ℕ → L → List ℕ → ReadOutcome L

-- a call of `read` on a text: what it was lent, of whatever length, and what it left, as its contract says
pub record Call {L : Type 0} (outcome : Outcome L) (t : List ℕ) : Type 0 where
  pub work : ℕ
  pub log_lent : L
  pub sheet_lent : List ℕ
  pub answer : Result Answer Refusal
  pub log : L
  pub sheet : List ℕ
  pub contract : read_in answer log sheet ≡ outcome t work log_lent sheet_lent

-- the head, the sheet and the text, if the answer is a machine
abbrev pub answered : {L : Type 0} {outcome : Outcome L} {t : List ℕ} → Call outcome t → Option A.Answer
answered {t} r = answer_given t (read_in r.answer r.log r.sheet)

-- an answer, if it is a machine, is the one inferred from what assembly leaves of the text
abbrev pub Infers : List ℕ → Option A.Answer → Type 0
Infers t (Some a) = content_of_answer a ≡ infer (assembled (read_lines (decode t)))
Infers t None = Unit {0}

-- an answer, if it is a machine, is left as it is by a further inference
abbrev pub Inferred : Option A.Answer → Type 0
Inferred (Some a) = infer (content_of_answer a) ≡ content_of_answer a
Inferred None = Unit {0}

-- inference, done once, is finished: of every machine as a value, of every admitted text, and of every call
pub record InferredOnce {L : Type 0} (read : Outcome L) : Type 0 where
  pub twice : InferTwice
  pub text_infers : ReadInfers
  pub text_inferred : ReadInferred
  pub call_infers : (t : List ℕ) (r : Call read t) → Infers t (answered r)
  pub call_inferred : (t : List ℕ) (r : Call read t) → Inferred (answered r)
