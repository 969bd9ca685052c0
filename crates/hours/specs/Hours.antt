-- What a reader must believe: when a station is open, how long the wait is, and what adding a window answers.
use Rattle.std.specs.Prelude.{ℕ, zero, suc, ◌+◌, ◌%◌, min, Bool, true, false, cond, ◌&&◌, ◌||◌, not, eqb, leb, ltb}
use Rattle.std.specs.Prelude.{List, take, replicate, set, Option, None, Some, Result, Ok, Err}
use Rattle.std.specs.List.{list_any, zip}
use Rattle.hours.specs.declared.Hours.{Hours}
use Rattle.hours.specs.declared.Added.{Added}
use Rattle.hours.specs.declared.HoursRefusal.{HoursRefusal}
use Rattle.hours.specs.declared.HoursRefusal.TheVariants.{OutOfRange, EmptyWindow}

-- the number of a refusal
abbrev pub refusal_number : HoursRefusal → ℕ
refusal_number OutOfRange = 20
refusal_number EmptyWindow = 21

-- the minutes of a week
abbrev pub week : ℕ
week = 10080

-- the most windows
abbrev pub max_windows : ℕ
max_windows = 32

-- whether a pair of minutes is a window: it opens and closes within the week, and not at the same minute
abbrev pub is_window : ℕ → ℕ → Bool
is_window o c = ltb o week && (ltb c week && not (eqb o c))

-- whether a minute is inside a window: opening included, closing excluded; where the closing is the smaller, over the week's end
unfoldable pub inside : ℕ → ℕ → ℕ → Bool
inside o c m = is_window o c && cond (ltb o c) (leb o m && ltb m c) (leb o m || ltb m c)

-- how many windows are listed: those that the count says, and no more than there is room for
abbrev pub listed : Hours → ℕ
listed h = min h.count max_windows

-- the windows, as pairs of opening and closing
abbrev pub windows : Hours → List (ℕ × ℕ)
windows h = take (listed h) (zip h.opens h.closes)

-- whether a minute is open: inside one of the windows
unfoldable pub is_open : Hours → ℕ → Bool
is_open h m = list_any (λ (w : ℕ × ℕ). inside w.0 w.1 m) (windows h)

-- the answer: refused if the minute is above 10,079
unfoldable pub openness : Hours → ℕ → Result Bool HoursRefusal
openness h m = cond (ltb m week) (Ok (is_open h m)) (Err OutOfRange)

-- the least of n numbers from d on that passes a test; d + n if none does
unfoldable pub least : ℕ → ℕ → (ℕ → Bool) → ℕ
least zero d f = d
least (suc n) d f = elim (f d) [ true ↦ d | false ↦ least n (suc d) f ]

-- the least number of minutes after which an open minute comes, over the week's end too; those of a week if none is open
unfoldable pub waiting : Hours → ℕ → ℕ
waiting h m = least week 0 (λ d. is_open h ((m + d) % week))

-- the answer: refused if the minute is above 10,079, none if no minute is open
unfoldable pub wait_answer : Hours → ℕ → Result (Option ℕ) HoursRefusal
wait_answer h m = cond (ltb m week) (Ok (cond (ltb (waiting h m) week) (Some (waiting h m)) None)) (Err OutOfRange)

-- no window
abbrev pub empty : Hours
empty = record { opens = replicate max_windows 0; closes = replicate max_windows 0; count = 0 }

-- the windows with one more behind them
abbrev pub with : Hours → ℕ → ℕ → Hours
with h o c = record { opens = set h.opens h.count o; closes = set h.closes h.count c; count = h.count + 1 }

-- a window added: refused for a minute above 10,079 or a 33rd window, then if it opens and closes at the same minute
unfoldable pub added : Hours → ℕ → ℕ → Added
added h o c =
    cond
    (ltb o week && (ltb c week && ltb h.count max_windows))
    (cond (eqb o c) (record { answer = Err EmptyWindow; hours = h }) (record { answer = Ok tt; hours = with h o c }))
    (record { answer = Err OutOfRange; hours = h })
