-- Paper 02, request 2: a batch. First 23, then every entry is read and tested, then every entry runs.
use Rattle.std.specs.Prelude.{ℕ, suc, ◌+◌, ◌-◌, ◌*◌, Bool, true, false, ◌&&◌, List, [], ◌∷◌, ◌++◌, map}
use Rattle.std.specs.Prelude.{Option, Some, None, option_map, eqb, leb, length, get_or, set, take, drop}
use Rattle.chars.specs.Utf8.{decode}
use Rattle.language.specs.Content.{Content, content_of}
use Rattle.language.specs.Lines.{read_lines}
use Rattle.language.specs.Infer.{machine_of}
use Rattle.language.specs.Outcome.{Refusal, refusal_numbers, leaves_work_number, diagnostics_number}
use Rattle.language.specs.Outcome.{Reply, machine, diagnosed, refused, read_outcome}
use Rattle.running.specs.Run.{Stop, halted, stuck, spent, edge, Ended, run_on}
use Rattle.running.specs.Refusals.{Unfit, unfit_number, unfit_for}

-- ---- how a batch is lent

-- texts back to back, a length for each entry, the steps allowed to all, how many words of work, and the rows at entry
pub record BatchLent : Type 0 where
  pub texts : List ℕ
  pub lengths : List ℕ
  pub allowance : ℕ
  pub work : ℕ
  pub log : List ℕ
  pub sheet : List ℕ
  pub cells : List ℕ
  pub answers : List ℕ

-- whether the lengths fit into so many bytes, each taken from what is left
unfoldable pub lengths_fit : List ℕ → ℕ → Bool
lengths_fit [] bytes = true
lengths_fit (n ∷ ns) bytes = leb n bytes && lengths_fit ns (bytes - n)

-- the words of an entry's answer
abbrev pub entry_size : ℕ
entry_size = 2

-- whether enough was lent: 23 if not
unfoldable pub enough : BatchLent → Bool
unfolding lengths_fit
enough l = lengths_fit l.lengths (length l.texts) && leb (entry_size * length l.lengths) (length l.answers)

-- the text of each entry
unfoldable pub entry_texts : List ℕ → List ℕ → List (List ℕ)
entry_texts [] bytes = []
entry_texts (n ∷ ns) bytes = take n bytes ∷ entry_texts ns (drop n bytes)

-- ---- reading

-- the machine of a text that reads without a diagnostic
unfoldable pub content_of_text : List ℕ → Content
unfolding content_of machine_of read_lines decode
content_of_text t = content_of (machine_of (read_lines (decode t)))

-- why an entry is refused: as the reader refuses it, for its diagnostics, or since its machine cannot run
pub data EntryRefusal : Type 0 where
  not_read : Refusal → EntryRefusal
  diagnostics : ℕ → EntryRefusal
  unfit : Unfit → EntryRefusal

-- what an entry is refused for, by the reader's reply, its text and the number of cells
unfoldable pub entry_refusal : Reply → List ℕ → ℕ → Option EntryRefusal
unfolding content_of_text unfit_for
entry_refusal (refused r) t cells = Some (not_read r)
entry_refusal (diagnosed n) t cells = Some (diagnostics n)
entry_refusal (machine h) t cells = option_map (λ u. unfit u) (unfit_for (content_of_text t) cells)

-- what every entry finds: so many words of work, and so many cells
pub record Room : Type 0 where
  pub work : ℕ
  pub cells : ℕ

-- an entry read and tested: what it is refused for, and log and sheet as its reading leaves them
pub record EntryOutcome : Type 0 where
  pub refusal : Option EntryRefusal
  pub log : List ℕ
  pub sheet : List ℕ

-- an entry read, on log and sheet as they are, and tested
unfoldable pub entry_outcome : Room → List ℕ → List ℕ → List ℕ → EntryOutcome
unfolding read_outcome entry_refusal
entry_outcome room t log sheet =
    let o = read_outcome t room.work log sheet in
    record { refusal = entry_refusal o.reply t room.cells; log = o.log; sheet = o.sheet }

-- how the readings end: the index of the first refused entry and why, if there is one, and log and sheet as they are left
pub record Readings : Type 0 where
  pub refusal : Option (ℕ × EntryRefusal)
  pub log : List ℕ
  pub sheet : List ℕ

-- the readings of texts from entry i on, each on what the one before left, up to the first refused entry
unfoldable pub readings : Room → ℕ → List (List ℕ) → List ℕ → List ℕ → Readings
unfolding entry_outcome
readings room i [] log sheet = record { refusal = None; log = log; sheet = sheet }
readings room i (t ∷ ts) log sheet =
    let o = entry_outcome room t log sheet in
    elim o.refusal [
      | Some r ↦ record { refusal = Some (i, r); log = o.log; sheet = o.sheet }
      | None ↦ readings room (suc i) ts o.log o.sheet
    ]

-- ---- running

-- an entry that runs: its machine, and which of the counters counts its steps
pub record Runnable : Type 0 where
  pub machine : Content
  pub counter : ℕ

-- the entry of a text; here all name the same counter
unfoldable pub runnable_of : List ℕ → Runnable
unfolding content_of_text
runnable_of t = record { machine = content_of_text t; counter = 0 }

-- the number of a stop
abbrev pub stop_number : Stop → ℕ
stop_number halted = 0
stop_number stuck = 1
stop_number spent = 2
stop_number edge = 3

-- an entry's answer: its stop and its own steps
abbrev pub entry_words : Ended → List ℕ
entry_words e = stop_number e.stop ∷ e.steps ∷ []

-- what runs leave: the answers of the entries, the counters and the cells
pub record Runs : Type 0 where
  pub answers : List ℕ
  pub counters : List ℕ
  pub cells : List ℕ

-- an answer in front of what later runs leave
abbrev pub preceded : List ℕ → Runs → Runs
preceded words r = record { answers = words ++ r.answers; counters = r.counters; cells = r.cells }

-- the runs of entries in order, each with what its counter leaves of the allowance, on the cells as the one before left them
unfoldable pub runs : ℕ → List Runnable → List ℕ → List ℕ → Runs
unfolding run_on
runs allowance [] counters cells = record { answers = []; counters = counters; cells = cells }
runs allowance (e ∷ es) counters cells =
    let count = get_or counters e.counter 0 in
    let r = run_on e.machine (allowance - count) cells in
    preceded (entry_words r) (runs allowance es (set counters e.counter (count + r.steps)) r.last.cells)

-- the runs of texts from the start of a batch
unfoldable pub runs_of : ℕ → List (List ℕ) → List ℕ → Runs
unfolding runnable_of runs
runs_of allowance ts cells = runs allowance (map runnable_of ts) (0 ∷ []) cells

-- ---- the batch

-- what a batch answers: it ran, too little was lent, or the index of the first refused entry and why
pub data BatchReply : Type 0 where
  ran not_lent : BatchReply
  refused_at : ℕ → EntryRefusal → BatchReply

-- a batch's answer, and log, sheet, cells and answers as it leaves them
pub record BatchOutcome : Type 0 where
  pub reply : BatchReply
  pub log : List ℕ
  pub sheet : List ℕ
  pub cells : List ℕ
  pub answers : List ℕ

-- answers at the front of the row that is lent for them
abbrev pub answers_in : List ℕ → List ℕ → List ℕ
answers_in answers row = answers ++ drop (length answers) row

-- behind the readings: the first refused entry refuses the whole batch, cells and answers untouched, else all run
unfoldable pub after_readings : BatchLent → List (List ℕ) → Readings → BatchOutcome
unfolding runs_of
after_readings l ts rs = elim rs.refusal [
  | Some r ↦ record { reply = refused_at r.0 r.1; log = rs.log; sheet = rs.sheet; cells = l.cells; answers = l.answers }
  | None ↦
      (let r = runs_of l.allowance ts l.cells in
      record { reply = ran; log = rs.log; sheet = rs.sheet; cells = r.cells; answers = answers_in r.answers l.answers })
]

-- a batch call
unfoldable pub batch_outcome : BatchLent → BatchOutcome
unfolding enough entry_texts readings after_readings
batch_outcome l = elim (enough l) [
  | false ↦ record { reply = not_lent; log = l.log; sheet = l.sheet; cells = l.cells; answers = l.answers }
  | true ↦
      (let ts = entry_texts l.lengths l.texts in
      let room : Room = record { work = l.work; cells = length l.cells } in
      after_readings l ts (readings room 0 ts l.log l.sheet))
]

-- ---- the answer in words

-- the number and the value of an entry's refusal; the value is 0 from 8 on
abbrev pub entry_numbers : EntryRefusal → ℕ × ℕ
entry_numbers (not_read r) = refusal_numbers r
entry_numbers (diagnostics n) = (diagnostics_number, n)
entry_numbers (unfit u) = (unfit_number u, 0)

-- the index that says that there is none
abbrev pub no_index : ℕ
no_index = 4294967295

-- the words of a batch's answer: its number, its value, and the index of the refused entry
abbrev pub batch_words : BatchReply → List ℕ
batch_words ran = 0 ∷ 0 ∷ no_index ∷ []
batch_words not_lent = 23 ∷ 0 ∷ no_index ∷ []
batch_words (refused_at i r) = (entry_numbers r).0 ∷ (entry_numbers r).1 ∷ i ∷ []

-- whether work is untouched: nothing was read, or the first entry was refused before its text was read into work
abbrev pub batch_leaves_work : List ℕ → BatchReply → Bool
batch_leaves_work lengths ran = eqb (length lengths) 0
batch_leaves_work lengths not_lent = true
batch_leaves_work lengths (refused_at i r) = eqb i 0 && leaves_work_number (entry_numbers r).0
