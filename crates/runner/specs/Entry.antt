-- How the code goes over the entries of a batch, one by one: describes the code.
use Rattle.std.specs.Prelude.{ℕ, ◌≤◌, Bool, false, List, length, Result, Ok, Err, Option, None, Some}
use Rattle.machine.specs.declared.Head.{Head}
use Rattle.language.specs.Outcome.{work_needed, leaves_work_number}
use Rattle.form_theorems.specs.Read.{ReadAs}
use Rattle.running.specs.Fit.{Fit}
use Rattle.running.specs.Batch as B
use Rattle.running.specs.Batch.{content_of_text, entry_numbers, Room, EntryOutcome, Readings}
use Rattle.runner_answer.specs.declared.EntryRefusal.{EntryRefusal}
use Rattle.runner_answer.specs.Answer.{entry_refusal_in}

-- the machine of an entry was read into the sheet and may run: what its run asks
pub record Ready (t : List ℕ) (head : Head) (sheet : List ℕ) (work cells : ℕ) : Type 0 where
  pub read : ReadAs t head sheet
  pub fits : Fit (content_of_text t) cells
  pub room : work_needed (length t) ≤ work

-- so many words of work, and so many cells
abbrev pub room_of : ℕ → ℕ → Room
room_of work cells = record { work = work; cells = cells }

-- what an answer says an entry is refused for
abbrev pub refused_in : Result Head EntryRefusal → Option B.EntryRefusal
refused_in (Ok head) = None
refused_in (Err r) = Some (entry_refusal_in r)

-- the answer, and the rows that are left with it
abbrev pub entry_in : Result Head EntryRefusal → List ℕ → List ℕ → EntryOutcome
entry_in a log sheet = record { refusal = refused_in a; log = log; sheet = sheet }

-- whether an answer leaves work untouched
abbrev pub entry_leaves : Result Head EntryRefusal → Bool
entry_leaves (Ok head) = false
entry_leaves (Err r) = leaves_work_number (entry_numbers (entry_refusal_in r)).0

-- what an answer says of the first refused entry: its index and why
abbrev pub refusal_in : Result (Unit {0}) (ℕ × EntryRefusal) → Option (ℕ × B.EntryRefusal)
refusal_in (Ok u) = None
refusal_in (Err r) = Some (r.0, entry_refusal_in r.1)

-- the answer, and the rows that are left with it
abbrev pub readings_in : Result (Unit {0}) (ℕ × EntryRefusal) → List ℕ → List ℕ → Readings
readings_in a log sheet = record { refusal = refusal_in a; log = log; sheet = sheet }

-- the reply of a batch whose readings end so
abbrev pub reply_in : Result (Unit {0}) (ℕ × EntryRefusal) → B.BatchReply
reply_in (Ok u) = B.ran
reply_in (Err r) = B.refused_at r.0 (entry_refusal_in r.1)

-- readings that refuse no entry, and leave such a log and sheet
abbrev pub accepted : List ℕ → List ℕ → Readings
accepted log sheet = record { refusal = None; log = log; sheet = sheet }
