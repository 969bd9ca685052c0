-- A stored case (oracle/src/store.rs has its layout), and when an outcome is the stored one.
use Rattle.std.specs.Prelude.{ℕ, suc, ◌+◌, ◌-◌, ◌*◌, ◌/◌, ◌≤◌, Bool, true, false, cond, ◌&&◌, List, [], ◌∷◌, length, take, drop, replicate, ◌==◌, nat_le, nat_lt, slice_index, get_or}
use Rattle.language.specs.Outcome.{leaves_work_number, ReadOutcome, reply_words, read_outcome, WriteOutcome, write_words, write_outcome}

-- the little-endian word at an index of stored bytes, 0 behind the last
unfoldable pub word_at : List ℕ → ℕ → ℕ
word_at c i =
    cond (nat_lt i (length c / 4)) (slice_index c (4 * i) + 256 * slice_index c (4 * i + 1) + 65536 * (slice_index c (4 * i + 2) + 256 * slice_index c (4 * i + 3))) 0

-- how many words a mark says are stored: none where it says that a row is left untouched
abbrev pub marked : ℕ → ℕ
marked m = cond (m == 4294967295) 0 m

-- the word that is to stand at i, of a row whose words are stored from `from` on: zero behind the last; that of before where it
-- is left untouched
unfoldable pub wanted : List ℕ → List ℕ → ℕ → ℕ → ℕ → ℕ
unfolding word_at
wanted before c from m i = cond (m == 4294967295) (slice_index before i) (cond (nat_lt i m) (word_at c (from + i)) 0)

-- whether a row holds the words of f, from i on
unfoldable pub holds_from : (ℕ → ℕ) → ℕ → List ℕ → Bool
holds_from f i [] = true
holds_from f i (x ∷ xs) = x == f i && holds_from f (suc i) xs

-- whether a row is left as stored, with room for all that is stored
unfoldable pub left : List ℕ → List ℕ → ℕ → ℕ → List ℕ → Bool
unfolding holds_from wanted
left before c from m row = nat_le (marked m) (length row) && holds_from (wanted before c from m) 0 row

-- whether log and sheet are left as stored: their marks are the words 6 and 7, and what is stored begins at the word 48
unfoldable pub rows_left : List ℕ → List ℕ → List ℕ → List ℕ → Bool
unfolding left word_at
rows_left before c log sheet = left before c 48 (word_at c 6) log && left before c (48 + marked (word_at c 6)) (word_at c 7) sheet

-- whether work is as an answer of a number leaves it: untouched by refusals 1 and 2
unfoldable pub work_left : ℕ → List ℕ → List ℕ → List ℕ → Bool
unfolding left
work_left n before c work = cond (leaves_work_number n) (left before c 0 4294967295 work) true

-- whether an outcome is the stored one, with the 36 words of the answer at the word 9
unfoldable pub agrees : List ℕ → List ℕ → ReadOutcome (List ℕ) → Bool
agrees before c o = left before c 9 36 (reply_words o.reply) && rows_left before c o.log o.sheet

-- whether an output is left as stored, with room for all that is stored: the bytes that are stored, and behind them that of
-- before the call, 165
unfoldable pub output_left : List ℕ → List ℕ → Bool
unfolding holds_from
output_left stored row = nat_le (length stored) (length row) && holds_from (λ i. get_or stored i 165) 0 row

-- the last n bytes of a case before an offset
abbrev pub bytes_before : List ℕ → ℕ → ℕ → List ℕ
bytes_before c end n = take n (drop (end - n) c)

-- whether an output is left as stored, where what is stored ends at an offset; the word 8 is its mark
unfoldable pub output_at : List ℕ → ℕ → List ℕ → Bool
output_at c end row = cond (nat_lt end (marked (word_at c 8))) false (output_left (bytes_before c end (marked (word_at c 8))) row)

-- whether an outcome of writing is the stored one, with the first words of the answer at the word 45
unfoldable pub form_agrees : List ℕ → List ℕ → ℕ → WriteOutcome (List ℕ) → Bool
form_agrees before c end o =
    left before c 45 3 (write_words o.reply) && (rows_left before c o.log o.sheet && output_at c end o.output)

-- the rows that are lent to a call are fronts of what they hold before it: work, log and sheet
pub record Fronts (b w l s : List ℕ) : Type 0 where
  pub work : length w ≤ length b
  pub log : length l ≤ length b
  pub sheet : length s ≤ length b

-- the program's buffers: work, log and sheet
pub record Rooms (w l s : List ℕ) : Type 0 where
  pub work : 40960 ≤ length w
  pub log : 16384 ≤ length l
  pub sheet : 16384 ≤ length s

-- the lengths of a case are within the program's buffers, and its text within the case
pub record Within (c : List ℕ) : Type 0 where
  pub work : word_at c 2 ≤ 40960
  pub log : word_at c 3 ≤ 16384
  pub sheet : word_at c 4 ≤ 16384
  pub text : word_at c 1 ≤ length c

-- whether the lengths of a case are within the program's buffers, and its text within the case
unfoldable pub lengths_fit : List ℕ → Bool
lengths_fit c = nat_le (word_at c 2) 40960 && (nat_le (word_at c 3) 16384 && (nat_le (word_at c 4) 16384 && nat_le (word_at c 1) (length c)))

-- the text of a case
abbrev pub text_of : List ℕ → List ℕ
text_of c = drop (length c - word_at c 1) c

-- whether reading the text of a case, with buffers of its lengths, has the stored outcome; not where a length is beyond the
-- program's buffers
unfoldable pub reading_agrees : List ℕ → List ℕ → Bool
unfolding lengths_fit
reading_agrees before c = lengths_fit c && agrees before c (read_outcome (text_of c) (word_at c 2) (take (word_at c 3) before) (take (word_at c 4) before))

-- whether writing the form of a case's text has the stored outcome
unfoldable pub writing_agrees : List ℕ → List ℕ → Bool
unfolding lengths_fit
writing_agrees before c =
    lengths_fit c && (nat_le (word_at c 5) 65536
    && form_agrees before c (length c - word_at c 1) (write_outcome (text_of c) (word_at c 2) (take (word_at c 3) before) (take (word_at c 4) before) (replicate (word_at c 5) 165)))
