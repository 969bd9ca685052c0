-- What the claims of demand 3 speak of: texts that can be written, the form that a call leaves, and answers that agree.
use Rattle.std.specs.Prelude.{ℕ, ◌≤◌, true, List, [], ◌≡◌, length, take, Option, None, Some}
use Rattle.chars.specs.Utf8.{decode}
use Rattle.language.specs.Lines.{read_lines}
use Rattle.language.specs.Assembly.{diagnostics}
use Rattle.language.specs.Outcome.{max_bytes, admitted, machine, diagnosed, refused, ReadOutcome, written, not_written, not_read, WriteOutcome, form_of}
use Rattle.language.specs.Agreement.{Answer, Agree}

-- a text that is admitted, reads without a diagnostic, and has a plain form of at most 4,194,304 bytes
pub record Writable (t : List ℕ) : Type 0 where
  pub is_admitted : admitted t ≡ true
  pub no_diagnostic : diagnostics (read_lines (decode t)) ≡ []
  pub form_short : length (form_of t) ≤ max_bytes

-- what a writing call leaves at the front of its output
abbrev pub form_left : {L : Type 0} → WriteOutcome L → List ℕ
form_left o = elim o.reply [ written n ↦ take n o.output | not_written n ↦ [] | not_read r ↦ [] ]

-- the answer of a reading call, if it is a machine
abbrev pub answer_given : {L : Type 0} → List ℕ → ReadOutcome L → Option Answer
answer_given t o =
    elim o.reply [ machine h ↦ Some (record { head = h; sheet = o.sheet; text = t }) | diagnosed n ↦ None | refused r ↦ None ]

-- both answers are machines, and they agree
abbrev pub BothAgree : Option Answer → Option Answer → Type 0
BothAgree (Some a) (Some b) = Agree a b
BothAgree (Some a) None = ⊥
BothAgree None o = ⊥
