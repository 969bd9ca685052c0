-- The whole call: the tests of what was lent, the readings and the runs are those of the definition.
use Prim.Native.Nat.{ℕ, ◌*◌}
use mathlib.Core.Bool.{Bool, true, false, ◌&&◌}
use mathlib.Core.List.{List}
use mathlib.Core.Path.{◌≡◌, sym, ap, ◌∙◌}
use lib.Dec.{leb}
use lib.ListN.{length}
use Rattle.std.specs.Prelude.{Some}
use Rattle.running.specs.Batch.{BatchLent, lengths_fit, entry_size, enough, entry_texts, EntryRefusal, Readings, readings, Runs, runs_of}
use Rattle.running.specs.Batch.{BatchReply, ran, not_lent, refused_at, answers_in, BatchOutcome, after_readings, batch_outcome}
use Rattle.running.specs.Batch.{batch_words, batch_leaves_work}
use Rattle.reader_answer.specs.Front.{front_put}
use Rattle.runner_answer.specs.Given.{batch_number, batch_size, batch_given}
use Rattle.runner.specs.Entry.{room_of, accepted}

module _ (l : BatchLent) where
  -- whether enough was lent, as the code tests it
  abbrev lent_enough : Bool
  lent_enough = lengths_fit l.lengths (length l.texts) && leb (entry_size * length l.lengths) (length l.answers)

  -- its readings
  abbrev all : Readings
  all = readings (room_of l.work (length l.cells)) 0 (entry_texts l.lengths l.texts) l.log l.sheet

  -- and its runs
  abbrev rs : Runs
  rs = runs_of l.allowance (entry_texts l.lengths l.texts) l.cells

  -- an outcome that leaves cells and answers
  abbrev left : BatchReply → List ℕ → List ℕ → BatchOutcome
  left reply log sheet = record { reply = reply; log = log; sheet = sheet; cells = l.cells; answers = l.answers }

  -- too little was lent
  pub too_little : false ≡ lent_enough → left not_lent l.log l.sheet ≡ batch_outcome l
  unfolding batch_outcome enough
  too_little e = let q : lent_enough ≡ false = sym e in rw (batch_outcome, enough, q)

  module _ (e : true ≡ lent_enough) where
    read : batch_outcome l ≡ after_readings l (entry_texts l.lengths l.texts) all
    unfolding batch_outcome enough
    read = let q : lent_enough ≡ true = sym e in rw (batch_outcome, enough, q)

    -- an entry is refused
    pub one_refused : (i : ℕ) (r : EntryRefusal) (log sheet : List ℕ)
        → record { refusal = Some (i, r); log = log; sheet = sheet } ≡ all → left (refused_at i r) log sheet ≡ batch_outcome l
    unfolding after_readings
    one_refused i r log sheet q = ap (λ x. after_readings l (entry_texts l.lengths l.texts) x) q ∙ sym read

    -- all ran
    pub all_ran : (log sheet : List ℕ) → accepted log sheet ≡ all
        → record { reply = ran; log = log; sheet = sheet; cells = rs.cells; answers = answers_in rs.answers l.answers } ≡ batch_outcome l
    unfolding after_readings
    all_ran log sheet q = ap (λ x. after_readings l (entry_texts l.lengths l.texts) x) q ∙ sym read

-- the words of the answer, and its number
module _ (x o : BatchOutcome) (e : x ≡ o) where
  pub gives : (row row' words : List ℕ) (n : ℕ) → row' ≡ front_put batch_size words row → words ≡ batch_words x.reply
      → n ≡ batch_number x.reply → (n, row', x.log, x.sheet, x.cells, x.answers) ≡ batch_given o row
  unfolding batch_given
  gives row row' words n stored said first =
      (λ j. (first j, (stored ∙ ap (λ (w : List ℕ). front_put batch_size w row) said) j, x.log, x.sheet, x.cells, x.answers))
      ∙ ap (λ (y : BatchOutcome). batch_given y row) e

  pub leaves : (lengths : List ℕ) {P : Type 0} → (batch_leaves_work lengths x.reply ≡ true → P) → batch_leaves_work lengths o.reply ≡ true → P
  leaves lengths f h = f (ap (λ (y : BatchOutcome). batch_leaves_work lengths y.reply) e ∙ h)
