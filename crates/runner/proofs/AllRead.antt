-- The entries one after the other: what is left to read goes on from what the entries before left.
use Prim.Native.Nat.{ℕ, suc, ◌+◌, ◌-◌, ◌≤◌, ◌<◌}
use native.Mathlib.Omega.{arith}
use mathlib.Core.Bool.{true, false, ◌&&◌}
use mathlib.Core.List.{List, [], ◌∷◌}
use mathlib.Core.Path.{◌≡◌, refl, sym, ap, ◌∙◌}
use borrow.Author.Tests.{leb-true, le-leb, lt-leb}
use lib.Dec.{leb}
use lib.ListN.{length, get_or, take, drop, length-drop, drop_of_length-le}
use Rattle.std.proofs.lemmas.List.{drop_more}
use Rattle.std.specs.Prelude.{Some, None}
use Rattle.language.specs.Outcome.{read_outcome}
use Rattle.language.proofs.Every.{and_right, and_left}
use Rattle.running.specs.Batch as B
use Rattle.running.specs.Batch.{lengths_fit, entry_texts, entry_refusal, Room, EntryOutcome, entry_outcome, Readings, readings}
use Rattle.running.proofs.Runs.{some_none}
use Rattle.running.proofs.Readings.{read_again}
use Rattle.running.proofs.Batches.{ReadingsKeep, readings_keep, Accepted, readings_accepted}
use Rattle.runner.specs.Entry.{room_of, accepted}

-- ---- what was lent

-- whether lengths fit, one length on
module _ (ns : List ℕ) (i b : ℕ) where
  -- one that is longer than what is left does not
  pub fit_stops : i < length ns → b < get_or ns i 0 → lengths_fit (drop i ns) b ≡ false
  unfolding lengths_fit
  fit_stops more h = ap (λ l. lengths_fit l b) (drop_more ns i 0 more)
      ∙ ap (λ x. x && lengths_fit (drop (i + 1) ns) (b - get_or ns i 0)) (lt-leb (get_or ns i 0) b h)

  -- behind another go the others
  pub fit_on : i < length ns → get_or ns i 0 ≤ b → lengths_fit (drop i ns) b ≡ lengths_fit (drop (i + 1) ns) (b - get_or ns i 0)
  unfolding lengths_fit
  fit_on more h = ap (λ l. lengths_fit l b) (drop_more ns i 0 more)
      ∙ ap (λ x. x && lengths_fit (drop (i + 1) ns) (b - get_or ns i 0)) (le-leb (get_or ns i 0) b h)

  -- none do
  pub fit_ends : length ns ≤ i → lengths_fit (drop i ns) b ≡ true
  unfolding lengths_fit
  fit_ends h = ap (λ l. lengths_fit l b) (drop_of_length-le ns h)

-- ---- their readings

-- one step of the definition
abbrev step : Room → ℕ → List (List ℕ) → EntryOutcome → Readings
step room i ts o = elim o.refusal [
  | Some r ↦ record { refusal = Some (i, r); log = o.log; sheet = o.sheet }
  | None ↦ readings room (suc i) ts o.log o.sheet
]

-- what is left to read: the lengths from the i-th on fit into the bytes that are left, and reading those texts, with such a log
-- and sheet, gives what reading all gives
pub record LeftToRead (ns : List ℕ) (work cells : ℕ) (all : Readings) (i : ℕ) (rest log sheet : List ℕ) : Type 0 where
  pub fit : lengths_fit (drop i ns) (length rest) ≡ true
  pub goes : all ≡ readings (room_of work cells) i (entry_texts (drop i ns) rest) log sheet

module _ (ns : List ℕ) (work cells : ℕ) (all : Readings) (i : ℕ) (rest log sheet : List ℕ)
    (ahead : LeftToRead ns work cells all i rest log sheet) where
  -- none is left
  pub ahead_none : length ns ≤ i → accepted log sheet ≡ all
  unfolding readings entry_texts
  ahead_none h = sym (ahead.goes ∙ ap (λ l. readings (room_of work cells) i (entry_texts l rest) log sheet) (drop_of_length-le ns h))

  -- the next text, and the bytes behind it
  module _ (more : i < length ns) where
    abbrev n : ℕ
    n = get_or ns i 0

    here : drop i ns ≡ n ∷ drop (i + 1) ns
    here = drop_more ns i 0 more

    -- the texts are it and the others
    pub text_next : entry_texts (drop i ns) rest ≡ take n rest ∷ entry_texts (drop (i + 1) ns) (drop n rest)
    unfolding entry_texts
    text_next = ap (λ l. entry_texts l rest) here

    both : (leb n (length rest) && lengths_fit (drop (i + 1) ns) (length rest - n)) ≡ true
    unfolding lengths_fit
    both = sym (ap (λ l. lengths_fit l (length rest)) here) ∙ ahead.fit

    -- it is there
    pub text_fits : n ≤ length rest
    text_fits = leb-true n (length rest) (and_left (leb n (length rest)) _ both)

    -- it was read, with as many words of work and for as many cells
    module _ (text behind : List ℕ) (front : text ≡ take n rest) (back : behind ≡ drop n rest) (w k : ℕ) (same_work : w ≡ work)
        (same_cells : k ≡ cells) (x : EntryOutcome) (read : x ≡ entry_outcome (room_of w k) text log sheet) where
      abbrev t : List ℕ
      t = take n rest

      abbrev ts : List (List ℕ)
      ts = entry_texts (drop (i + 1) ns) behind

      read_so : x ≡ entry_outcome (room_of work cells) t log sheet
      read_so = read ∙ (λ j. entry_outcome (room_of (same_work j) (same_cells j)) (front j) log sheet)

      stepped : all ≡ step (room_of work cells) i ts x
      unfolding readings
      stepped = ahead.goes ∙ ap (λ l. readings (room_of work cells) i l log sheet)
          (text_next ∙ ap (λ b. t ∷ entry_texts (drop (i + 1) ns) b) (sym back))
          ∙ ap (step (room_of work cells) i ts) (sym read_so)

      -- refused, it ends the readings
      pub ahead_refused : (r : B.EntryRefusal) → x.refusal ≡ Some r
          → record { refusal = Some (i, r); log = x.log; sheet = x.sheet } ≡ all
      ahead_refused r e =
          let stops : Readings = record { refusal = Some (i, r); log = x.log; sheet = x.sheet } in
          let there : step (room_of work cells) i ts x ≡ stops = rw (step, e) refl in
          sym (stepped ∙ there)

      -- accepted, it leaves the others
      pub ahead_more : x.refusal ≡ None → LeftToRead ns work cells all (i + 1) behind x.log x.sheet
      ahead_more e =
          let others : Readings = readings (room_of work cells) (suc i) ts x.log x.sheet in
          let on : step (room_of work cells) i ts x ≡ others = rw (step, e) refl in
          let one : suc i ≡ i + 1 = omega arith in
          let l : length behind ≡ length rest - n = ap length back ∙ length-drop n rest in
          record {
            fit = ap (lengths_fit (drop (i + 1) ns)) l ∙ and_right (leb n (length rest)) _ both;
            goes = stepped ∙ on ∙ ap (λ j. readings (room_of work cells) j ts x.log x.sheet) one;
          }

      -- where all are accepted, it is not refused
      pub ahead_accepted : (r : B.EntryRefusal) (l s : List ℕ) → x.refusal ≡ Some r → all ≡ accepted l s → ⊥
      ahead_accepted r l s e q = some_none (ap (λ (y : Readings). y.refusal) (ahead_refused r e ∙ q))

-- all are left at first
pub ahead_all : (ns texts : List ℕ) (work cells : ℕ) (log sheet : List ℕ) → lengths_fit ns (length texts) ≡ true
    → LeftToRead ns work cells (readings (room_of work cells) 0 (entry_texts ns texts) log sheet) 0 texts log sheet
ahead_all ns texts work cells log sheet e = record { fit = e; goes = refl }

-- readings that refuse none are the same again on what they left
module _ (room : Room) where
  pub read_twice : (i : ℕ) (ts : List (List ℕ)) (log sheet l s : List ℕ) → readings room i ts log sheet ≡ accepted l s
      → readings room i ts l s ≡ accepted l s
  unfolding readings
  read_twice i [] log sheet l s e = refl
  read_twice i (t ∷ ts) log sheet l s e = ap (step room i ts) (sym same) ∙ e
    where
      kept : ReadingsKeep (readings room i (t ∷ ts) log sheet) (length log) (length sheet)
      kept = readings_keep room i (t ∷ ts) log sheet

      first : Accepted room (length log) (length sheet) t
      first = (readings_accepted room (length log) (length sheet) i (t ∷ ts) log sheet refl refl (ap (λ y. y.refusal) e)).0

      read : read_outcome t room.work log sheet ≡ read_outcome t room.work l s
      read = read_again t room.work log sheet l s first.head (first.reads log sheet refl refl)
          (sym kept.0 ∙ ap (λ y. length y.log) e) (sym kept.1 ∙ ap (λ y. length y.sheet) e)

      same : entry_outcome room t log sheet ≡ entry_outcome room t l s
      same = unfold entry_outcome in ap {B = EntryOutcome}
          (λ o. record { refusal = entry_refusal o.reply t room.cells; log = o.log; sheet = o.sheet }) read
