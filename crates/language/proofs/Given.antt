-- What an exported call gives: the words of its answer hold the number, so that what is stored of them tells the whole outcome.
use Prim.Native.Nat.{ℕ}
use mathlib.Core.Bool.{Bool, true, false}
use mathlib.Core.List.{List}
use mathlib.Core.Logic.{◌↔◌}
use mathlib.Core.Path.{◌≡◌, refl, sym, ap, ◌∙◌}
use lib.ListN.{get_or}
use Rattle.language.specs.Outcome.{Refusal, text_too_long, work_too_short, invalid_utf8, outside_set, log_too_short, sheet_too_short, output_too_short, refusal_number, leaves_work_number}
use Rattle.language.specs.Outcome.{Reply, machine, diagnosed, refused, reply_number, reply_words, ReadOutcome, WriteReply, written, not_written, not_read, write_number, write_words, WriteOutcome}
use Rattle.language.specs.Outcome.{at_front, read_given, write_given}

-- the words w of an answer, the row that is lent for them and as it is left, and the first word
module _ {L : Type 0} (w row row' : List ℕ) (n : ℕ) (stored : row' ≡ at_front w row) (first : n ≡ get_or w 0 0) where
  -- a reading call with the outcome x, which is the definition's
  module _ (x : ReadOutcome L) (words : w ≡ reply_words x.reply) where
    pub read_number : n ≡ reply_number x.reply
    unfolding reply_words
    read_number = first ∙ ap (λ (v : List ℕ). get_or v 0 0) words

    pub read_gives : (o : ReadOutcome L) → x ≡ o → (n, row', x.log, x.sheet) ≡ read_given o row
    unfolding read_given
    read_gives o e = (λ j. (read_number j, (stored ∙ ap (λ (v : List ℕ). at_front v row) words) j, x.log, x.sheet)) ∙ ap (λ (y : ReadOutcome L). read_given y row) e

  -- and a writing call
  module _ (x : WriteOutcome L) (words : w ≡ write_words x.reply) where
    pub written_number : n ≡ write_number x.reply
    written_number = first ∙ ap (λ (v : List ℕ). get_or v 0 0) words

    pub write_gives : (o : WriteOutcome L) → x ≡ o → (n, row', x.log, x.sheet, x.output) ≡ write_given o row
    unfolding write_given
    write_gives o e = (λ j. (written_number j, (stored ∙ ap (λ (v : List ℕ). at_front v row) words) j, x.log, x.sheet, x.output)) ∙ ap (λ (y : WriteOutcome L). write_given y row) e

-- ---- work

-- a number that leaves work, by what it is
pub leaves_as : {X : Type 0} (n m : ℕ) → n ≡ m → (leaves_work_number m ≡ true → X) → leaves_work_number n ≡ true → X
leaves_as n m e f h = f (ap leaves_work_number (sym e) ∙ h)

-- the refusals that leave work, one by one
abbrev pub refusal_leaves : Refusal → Bool
refusal_leaves text_too_long = true
refusal_leaves work_too_short = true
refusal_leaves (invalid_utf8 o) = false
refusal_leaves (outside_set o) = false
refusal_leaves (log_too_short n) = false
refusal_leaves (sheet_too_short n) = false
refusal_leaves (output_too_short n) = false

pub refusal_spelled : (r : Refusal) → leaves_work_number (refusal_number r) ≡ refusal_leaves r
refusal_spelled text_too_long = refl
refusal_spelled work_too_short = refl
refusal_spelled (invalid_utf8 o) = refl
refusal_spelled (outside_set o) = refl
refusal_spelled (log_too_short n) = refl
refusal_spelled (sheet_too_short n) = refl
refusal_spelled (output_too_short n) = refl

-- and so the replies
abbrev pub reply_leaves : Reply → Bool
reply_leaves (machine h) = false
reply_leaves (diagnosed n) = false
reply_leaves (refused r) = refusal_leaves r

pub reply_spelled : (r : Reply) → leaves_work_number (reply_number r) ≡ reply_leaves r
reply_spelled (machine h) = refl
reply_spelled (diagnosed n) = refl
reply_spelled (refused r) = refusal_spelled r

abbrev pub write_leaves : WriteReply → Bool
write_leaves (written n) = false
write_leaves (not_written n) = false
write_leaves (not_read r) = refusal_leaves r

pub write_reply_spelled : (r : WriteReply) → leaves_work_number (write_number r) ≡ write_leaves r
write_reply_spelled (written n) = refl
write_reply_spelled (not_written n) = refl
write_reply_spelled (not_read r) = refusal_spelled r

-- ---- the clauses as records: an equation of tuples says what one of records with the same parts says

pub record Given (L : Type 0) : Type 0 where
  pub number : ℕ
  pub row : List ℕ
  pub log : L
  pub sheet : List ℕ

pub record GivenOutput (L : Type 0) : Type 0 where
  pub number : ℕ
  pub row : List ℕ
  pub log : L
  pub sheet : List ℕ
  pub output : List ℕ

module _ {L : Type 0} (n : ℕ) (row row' : List ℕ) (log : L) (sheet : List ℕ) where
  abbrev pub read_record : ReadOutcome L → Given L
  read_record o = record { number = reply_number o.reply; row = at_front (reply_words o.reply) row; log = o.log; sheet = o.sheet }

  pub read_spelled : (o : ReadOutcome L) → ((n, row', log, sheet) ≡ read_given o row) ↔ (◌≡◌ {A = Given L} (record { number = n; row = row'; log = log; sheet = sheet }) (read_record o))
  unfolding read_given
  read_spelled o = (λ e. ap (λ p. record { number = p.0; row = p.1; log = p.2; sheet = p.3 }) e, λ e. ap (λ (g : Given L). (g.number, g.row, g.log, g.sheet)) e)

  abbrev pub write_record : WriteOutcome L → GivenOutput L
  write_record o = record { number = write_number o.reply; row = at_front (write_words o.reply) row; log = o.log; sheet = o.sheet; output = o.output }

  pub write_spelled : (output : List ℕ) (o : WriteOutcome L)
      → ((n, row', log, sheet, output) ≡ write_given o row) ↔ (◌≡◌ {A = GivenOutput L} (record { number = n; row = row'; log = log; sheet = sheet; output = output }) (write_record o))
  unfolding write_given
  write_spelled output o =
      (λ e. ap (λ p. record { number = p.0; row = p.1; log = p.2; sheet = p.3; output = p.4 }) e, λ e. ap (λ (g : GivenOutput L). (g.number, g.row, g.log, g.sheet, g.output)) e)
