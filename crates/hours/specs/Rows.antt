-- What a reader must believe of a row of words: the windows that it lists, the numbers of the answers, and what is left of it.
use Rattle.std.specs.Prelude.{ℕ, ◌+◌, ◌*◌, Bool, true, false, cond, ltb, List, ◌∷◌, ◌++◌, length, take, drop, get_or, set}
use Rattle.std.specs.Prelude.{Option, None, Some, Result, Ok, Err}
use Rattle.hours.specs.declared.Hours.{Hours}
use Rattle.hours.specs.declared.Added.{Added}
use Rattle.hours.specs.declared.HoursRefusal.{HoursRefusal}
use Rattle.hours.specs.declared.HoursRefusal.TheVariants.{OutOfRange}
use Rattle.hours.specs.Hours.{max_windows, refusal_number, empty, added}

-- the words of a row: the count, the opening minutes, the closing minutes
abbrev pub row_words : ℕ
row_words = 1 + 2 * max_windows

-- the windows that a row lists, whatever its words are; one that is too short lists none
unfoldable pub hours_of : List ℕ → Hours
hours_of row =
    cond
    (ltb (length row) row_words)
    empty
    (record { opens = take max_windows (drop 1 row); closes = take max_windows (drop (1 + max_windows) row); count = get_or row 0 0 })

-- windows as words
abbrev pub words_of : Hours → List ℕ
words_of h = h.count ∷ (h.opens ++ h.closes)

-- the number that is returned, and the row afterwards: the windows and the words behind them, or as it was if none is added
abbrev pub added_given : Added → List ℕ → ℕ × List ℕ
added_given a row = elim a.answer [ Ok u ↦ (0, words_of a.hours ++ drop row_words row) | Err r ↦ (refusal_number r, row) ]

-- a window added to a row; one that is too short has no room
unfoldable pub row_added : List ℕ → ℕ → ℕ → ℕ × List ℕ
row_added row o c =
    cond (ltb (length row) row_words) (refusal_number OutOfRange, row) (added_given (added (hours_of row) o c) row)

-- 0 closed, 1 open, or a refusal's number
abbrev pub openness_number : Result Bool HoursRefusal → ℕ
openness_number (Ok false) = 0
openness_number (Ok true) = 1
openness_number (Err r) = refusal_number r

-- 0 with the minutes in the first word of the answer, if it has one; 1 for none, or a refusal's number, with the answer as it was
abbrev pub wait_given : Result (Option ℕ) HoursRefusal → List ℕ → ℕ × List ℕ
wait_given (Ok (Some w)) l = (0, set l 0 w)
wait_given (Ok None) l = (1, l)
wait_given (Err r) l = (refusal_number r, l)
