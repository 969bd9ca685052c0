-- What is claimed of the answers, of every value unless it says otherwise: proofs/Claims.antt shows it.
use Rattle.std.specs.Prelude.{ℕ, ◌+◌, ◌%◌, ◌<◌, ◌≤◌, ◌≡◌, ◌↔◌, ◌⊎◌, true, false, ◌||◌, List, length, drop, None, Some, Ok, Err}
use Rattle.hours.specs.declared.Hours.{Hours}
use Rattle.hours.specs.declared.HoursRefusal.TheVariants.{OutOfRange, EmptyWindow}
use Rattle.hours.specs.Hours.{week, max_windows, inside, is_open, openness, wait_answer, empty, added}
use Rattle.hours.specs.Rows.{row_words, hours_of, row_added}

-- the values that `new` and `add` make
pub data Made : Hours → Type 0 where
  made_new : Made empty
  made_add : (h : Hours) (o c : ℕ) → Made h → Made (added h o c).hours

-- of a wait of w minutes from the minute m
pub record Reached (h : Hours) (m w : ℕ) : Type 0 where
  -- a wait is shorter than a week
  pub below_week : w < week
  -- the minute that it ends at is open
  pub open_then : is_open h ((m + w) % week) ≡ true
  -- no minute before that one is open
  pub none_before : (d : ℕ) → d < w → is_open h ((m + d) % week) ≡ false

-- of a window that is added
pub record Adds (h : Hours) (o c : ℕ) : Type 0 where
  -- what is not taken leaves the value as it is
  pub unchanged : ((added h o c).answer ≡ Ok tt → ⊥) → (added h o c).hours ≡ h
  -- a minute above 10,079 or a 33rd window is refused with 20, whatever else is wrong with it
  pub refused_first : (week ≤ o) ⊎ ((week ≤ c) ⊎ (max_windows ≤ h.count)) → (added h o c).answer ≡ Err OutOfRange
  -- one that is not is refused with 21 if it opens and closes at the same minute
  pub empty_then : o < week → c < week → h.count < max_windows → o ≡ c → (added h o c).answer ≡ Err EmptyWindow
  -- every other window is taken
  pub taken : o < week → c < week → h.count < max_windows → (o ≡ c → ⊥) → (added h o c).answer ≡ Ok tt
  -- a window that is taken opens the minutes that it has inside, and no others
  pub opens : Made h → (added h o c).answer ≡ Ok tt
      → (m : ℕ) → is_open (added h o c).hours m ≡ (is_open h m || inside o c m)

-- of a row that has all its words
pub record RowAdds (row : List ℕ) (o c : ℕ) : Type 0 where
  -- it lists the windows that it listed, and the one that is added
  pub adds : hours_of (row_added row o c).1 ≡ (added (hours_of row) o c).hours
  -- the words behind them are as they were
  pub behind : drop row_words (row_added row o c).1 ≡ drop row_words row
  -- all words are as they were if nothing is added
  pub same : ((row_added row o c).0 ≡ 0 → ⊥) → (row_added row o c).1 ≡ row

-- all of it
pub record Claims : Type 0 where
  -- what is said of a wait holds of each that is answered
  pub reached : (h : Hours) (m w : ℕ) → wait_answer h m ≡ Ok (Some w) → Reached h m w
  -- no wait exactly when no window was added
  pub never : (h : Hours) (m : ℕ) → Made h → m < week → (wait_answer h m ≡ Ok None) ↔ (h.count ≡ 0)
  -- of every value: no wait exactly when no minute of the week is open
  pub never_open : (h : Hours) (m : ℕ) → m < week
      → (wait_answer h m ≡ Ok None) ↔ ((k : ℕ) → k < week → is_open h k ≡ false)
  -- a minute above 10,079 is refused first
  pub minute_first : (h : Hours) (m : ℕ) → week ≤ m → (openness h m ≡ Err OutOfRange) × (wait_answer h m ≡ Err OutOfRange)
  -- and what is said of a window that is added, of each value
  pub adds : (h : Hours) (o c : ℕ) → Adds h o c
  -- and of each row that has all its words
  pub row_adds : (row : List ℕ) (o c : ℕ) → row_words ≤ length row → RowAdds row o c
