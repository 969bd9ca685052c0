-- Laws of a batch: what it keeps, that no counter passes the allowance, and that what runs was read as a machine that may run.
use Prim.Native.Nat.{ℕ, zero, suc, ◌+◌, ◌-◌, ◌*◌, ◌≤◌}
use native.Mathlib.Omega.{arith}
use mathlib.Core.Logic.{◌≢◌}
use mathlib.Core.List.{List, [], ◌∷◌, map}
use Rattle.std.specs.Prelude.{Option, None, Some}
use mathlib.Core.Path.{◌≡◌, refl, sym, ap, ◌∙◌}
use borrow.Author.Tests.{leb-true}
use lib.ListN.{length, get_or, set, drop, length-append, length-drop, length-map}
use Rattle.machine.specs.declared.Head.{Head}
use Rattle.language.specs.Outcome.{Reply, machine, diagnosed, refused, read_outcome}
use Rattle.language.proofs.Every.{by_test, and_right, Every}
use Rattle.language.specs.Content.{Content}
use Rattle.running.specs.Tape.{half, initial}
use Rattle.running.specs.Run.{run_on}
use Rattle.running.specs.Refusals.{Unfit, unfit_for}
use Rattle.running.specs.Batch.{BatchLent, lengths_fit, entry_size, enough, entry_texts, content_of_text, EntryRefusal, entry_refusal}
use Rattle.running.specs.Batch.{Room, EntryOutcome, entry_outcome, Readings, readings, Runnable, runnable_of, Runs, runs, runs_of}
use Rattle.running.specs.Batch.{ran, BatchOutcome, after_readings, batch_outcome}
use Rattle.running.proofs.Runs.{some_none, run_used}
use Rattle.running.proofs.Starts.{run_on-length}
use Rattle.running.proofs.Readings.{read_keeps, read_again}

-- ---- runs

get_every : (P : ℕ → Type 0) (l : List ℕ) (i : ℕ) → P 0 → Every P l → P (get_or l i 0)
get_every P [] i z h = z
get_every P (a ∷ l) zero z h = h.0
get_every P (a ∷ l) (suc i) z h = get_every P l i z h.1

pub set_every : (P : ℕ → Type 0) (l : List ℕ) (i v : ℕ) → P v → Every P l → Every P (set l i v)
set_every P [] i v j h = tt
set_every P (a ∷ l) zero v j h = (j, h.1)
set_every P (a ∷ l) (suc i) v j h = (h.0, set_every P l i v j h.1)

-- a run from the start does no more steps than are left
pub run_on_used : (m : Content) (n : ℕ) (cells : List ℕ) → (run_on m n cells).steps ≤ n
unfolding run_on
run_on_used m n cells = run_used m (half (length cells) m.tapes) n (initial m cells)

module _ (allowance : ℕ) where
  -- an answer for each entry
  pub runs_answers : (es : List Runnable) (counters cells : List ℕ)
      → length (runs allowance es counters cells).answers ≡ entry_size * length es
  unfolding runs
  runs_answers [] counters cells = refl
  runs_answers (e ∷ es) counters cells =
      let count = get_or counters e.counter 0 in
      let r = run_on e.machine (allowance - count) cells in
      let k = runs_answers es (set counters e.counter (count + r.steps)) r.last.cells in
      omega arith

  -- as many cells as before
  pub runs_cells : (es : List Runnable) (counters cells : List ℕ) → length (runs allowance es counters cells).cells ≡ length cells
  unfolding runs
  runs_cells [] counters cells = refl
  runs_cells (e ∷ es) counters cells =
      let count = get_or counters e.counter 0 in
      let r = run_on e.machine (allowance - count) cells in
      runs_cells es (set counters e.counter (count + r.steps)) r.last.cells ∙ run_on-length e.machine (allowance - count) cells

  -- no counter passes the allowance
  pub runs_within : (es : List Runnable) (counters cells : List ℕ) → Every (λ n. n ≤ allowance) counters
      → Every (λ n. n ≤ allowance) (runs allowance es counters cells).counters
  unfolding runs
  runs_within [] counters cells i = i
  runs_within (e ∷ es) counters cells i =
      let count = get_or counters e.counter 0 in
      let r = run_on e.machine (allowance - count) cells in
      let j : count ≤ allowance = get_every (λ n. n ≤ allowance) counters e.counter (omega arith) i in
      let k : r.steps ≤ allowance - count = run_on_used e.machine (allowance - count) cells in
      let next = set_every (λ n. n ≤ allowance) counters e.counter (count + r.steps) (omega arith) i in
      runs_within es (set counters e.counter (count + r.steps)) r.last.cells next

-- ---- readings

-- both rows have the lengths that they had
abbrev pub ReadingsKeep : Readings → ℕ → ℕ → Type 0
ReadingsKeep rs n s = (length rs.log ≡ n) × (length rs.sheet ≡ s)

-- an entry's reading keeps the lengths of log and sheet
pub outcome_keeps : (room : Room) (t log sheet : List ℕ)
    → let o = entry_outcome room t log sheet in (length o.log ≡ length log) × (length o.sheet ≡ length sheet)
unfolding entry_outcome
outcome_keeps room t log sheet = read_keeps t room.work log sheet

module _ (room : Room) where
  -- they keep the lengths of log and sheet
  pub readings_keep : (i : ℕ) (ts : List (List ℕ)) (log sheet : List ℕ)
      → ReadingsKeep (readings room i ts log sheet) (length log) (length sheet)
  unfolding readings
  readings_keep i [] log sheet = (refl, refl)
  readings_keep i (t ∷ ts) log sheet = go o.refusal refl (readings_keep (suc i) ts o.log o.sheet)
    where
      o : EntryOutcome
      o = entry_outcome room t log sheet

      k : (length o.log ≡ length log) × (length o.sheet ≡ length sheet)
      k = outcome_keeps room t log sheet

      go : (r : Option EntryRefusal) → o.refusal ≡ r
          → ReadingsKeep (readings room (suc i) ts o.log o.sheet) (length o.log) (length o.sheet)
          → ReadingsKeep (readings room i (t ∷ ts) log sheet) (length log) (length sheet)
      go (Some r) e ih = unfold readings in rw (e, readings) k
      go None e ih = unfold readings in rw (e, readings) (ih.0 ∙ k.0, ih.1 ∙ k.1)

-- a text that reads as a machine, whatever log and sheet of n and s words hold, and that may run on so many cells
pub record Accepted (room : Room) (n s : ℕ) (t : List ℕ) : Type 0 where
  pub head : Head
  pub reads : (log sheet : List ℕ) → length log ≡ n → length sheet ≡ s → (read_outcome t room.work log sheet).reply ≡ machine head
  pub fit_for : unfit_for (content_of_text t) room.cells ≡ None

reply_accepted : (room : Room) (t log sheet : List ℕ) (r : Reply) → (read_outcome t room.work log sheet).reply ≡ r
    → entry_refusal r t room.cells ≡ None → Accepted room (length log) (length sheet) t
unfolding entry_refusal
reply_accepted room t log sheet (refused r) e q = absurd (some_none q)
reply_accepted room t log sheet (diagnosed n) e q = absurd (some_none q)
reply_accepted room t log sheet (machine h) e q = record {
  head = h;
  reads = λ log' sheet' n s. ap (λ o. o.reply) (sym (read_again t room.work log sheet log' sheet' h e (sym n) (sym s))) ∙ e;
  fit_for = go (unfit_for (content_of_text t) room.cells) refl;
}
  where
    go : (o : Option Unfit) → unfit_for (content_of_text t) room.cells ≡ o → unfit_for (content_of_text t) room.cells ≡ None
    go None f = f
    go (Some u) f = absurd (some_none (rw (f, entry_refusal) at q))

-- an entry that is not refused is accepted
outcome_accepted : (room : Room) (t log sheet : List ℕ) → (entry_outcome room t log sheet).refusal ≡ None
    → Accepted room (length log) (length sheet) t
unfolding entry_outcome
outcome_accepted room t log sheet e = reply_accepted room t log sheet (read_outcome t room.work log sheet).reply refl e

module _ (room : Room) (n s : ℕ) where
  -- where the readings refuse no entry, every entry is accepted
  pub readings_accepted : (i : ℕ) (ts : List (List ℕ)) (log sheet : List ℕ) → length log ≡ n → length sheet ≡ s
      → (readings room i ts log sheet).refusal ≡ None → Every (Accepted room n s) ts
  unfolding readings
  readings_accepted i [] log sheet ln ls e = tt
  readings_accepted i (t ∷ ts) log sheet ln ls e =
      let k = outcome_keeps room t log sheet in
      go o.refusal refl (readings_accepted (suc i) ts o.log o.sheet (k.0 ∙ ln) (k.1 ∙ ls))
    where
      o : EntryOutcome
      o = entry_outcome room t log sheet

      go : (r : Option EntryRefusal) → o.refusal ≡ r
          → ((readings room (suc i) ts o.log o.sheet).refusal ≡ None → Every (Accepted room n s) ts)
          → Every (Accepted room n s) (t ∷ ts)
      go (Some r) f ih = unfold readings in absurd (some_none (rw (f, readings) at e))
      go None f ih = unfold readings in (
          let a : Accepted room (length log) (length sheet) t = outcome_accepted room t log sheet f in
          let first : Accepted room n s t = record {
            head = a.head;
            reads = λ l m p q. a.reads l m (p ∙ sym ln) (q ∙ sym ls);
            fit_for = a.fit_for;
          } in
          (first, ih (rw (f, readings) at e)))

-- ---- the batch

texts_length : (ns bytes : List ℕ) → length (entry_texts ns bytes) ≡ length ns
unfolding entry_texts
texts_length [] bytes = refl
texts_length (n ∷ ns) bytes = ap suc (texts_length ns (drop n bytes))

-- every row keeps its length
pub record RowsKept (l : BatchLent) (o : BatchOutcome) : Type 0 where
  pub log_kept : length o.log ≡ length l.log
  pub sheet_kept : length o.sheet ≡ length l.sheet
  pub cells_kept : length o.cells ≡ length l.cells
  pub answers_kept : length o.answers ≡ length l.answers

abbrev room_of : BatchLent → Room
room_of l = record { work = l.work; cells = length l.cells }

after_keeps : (l : BatchLent) (ts : List (List ℕ)) (rs : Readings) → ReadingsKeep rs (length l.log) (length l.sheet)
    → entry_size * length ts ≤ length l.answers → RowsKept l (after_readings l ts rs)
unfolding after_readings
after_keeps l ts rs k i = go rs.refusal refl
  where
    r : Runs
    r = runs_of l.allowance ts l.cells

    answered : length r.answers ≡ entry_size * length ts
    answered = unfold runs_of in
        runs_answers l.allowance (map runnable_of ts) (0 ∷ []) l.cells ∙ ap (λ (n : ℕ). entry_size * n) (length-map ts runnable_of)

    go : (o : Option (ℕ × EntryRefusal)) → rs.refusal ≡ o → RowsKept l (after_readings l ts rs)
    go (Some x) e = rw (e, after_readings) (record { log_kept = k.0; sheet_kept = k.1; cells_kept = refl; answers_kept = refl })
    go None e = rw (e, after_readings) (record {
      log_kept = k.0;
      sheet_kept = k.1;
      cells_kept = unfold runs_of in runs_cells l.allowance (map runnable_of ts) (0 ∷ []) l.cells;
      answers_kept = length-append r.answers (drop (length r.answers) l.answers)
          ∙ omega (arith, length-drop (length r.answers) l.answers, answered);
    })

-- a batch keeps the length of every row
pub batch_keeps : (l : BatchLent) → RowsKept l (batch_outcome l)
unfolding batch_outcome enough
batch_keeps l = by_test (enough l)
    (λ e. rw (e, batch_outcome) (
    let ts = entry_texts l.lengths l.texts in
    let k = readings_keep (room_of l) 0 ts l.log l.sheet in
    let room = and_right (lengths_fit l.lengths (length l.texts)) _ e in
    let i = leb-true (entry_size * length l.lengths) (length l.answers) room in
    after_keeps l ts (readings (room_of l) 0 ts l.log l.sheet) k (omega (arith, texts_length l.lengths l.texts))))
    (λ e. rw (e, batch_outcome) (record { log_kept = refl; sheet_kept = refl; cells_kept = refl; answers_kept = refl }))

-- a batch that did not run left cells and answers as they were
pub batch_untouched : (l : BatchLent) → (batch_outcome l).reply ≢ ran
    → ((batch_outcome l).cells ≡ l.cells) × ((batch_outcome l).answers ≡ l.answers)
unfolding batch_outcome
batch_untouched l n = by_test (enough l)
    (λ e. rw (e, batch_outcome) (
    let ts = entry_texts l.lengths l.texts in
    after ts (readings (room_of l) 0 ts l.log l.sheet) (λ q. n (rw (e, batch_outcome) q))))
    (λ e. rw (e, batch_outcome) (refl, refl))
  where
    after : (ts : List (List ℕ)) (rs : Readings) → (after_readings l ts rs).reply ≢ ran
        → ((after_readings l ts rs).cells ≡ l.cells) × ((after_readings l ts rs).answers ≡ l.answers)
    after ts rs n = go rs.refusal refl
      where
        go : (o : Option (ℕ × EntryRefusal)) → rs.refusal ≡ o
            → ((after_readings l ts rs).cells ≡ l.cells) × ((after_readings l ts rs).answers ≡ l.answers)
        go (Some x) e = unfold after_readings in rw (e, after_readings) (refl, refl)
        go None e = unfold after_readings in absurd (n (rw (e, after_readings) refl))
