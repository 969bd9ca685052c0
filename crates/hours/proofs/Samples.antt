-- Samples, computed: a window's ends, the week's end, several windows, what is refused, and values that no call makes.
use Rattle.std.proofs.Common.{ℕ, false, ◌≡◌, refl, List, [], ◌∷◌, ◌++◌, map, replicate}
use Rattle.hours.specs.declared.Hours.{Hours}
use Rattle.std.specs.Prelude.{true, None, Some, Result, Ok, Err}
use Rattle.hours.specs.declared.HoursRefusal.{HoursRefusal}
use Rattle.hours.specs.declared.HoursRefusal.TheVariants.{OutOfRange, EmptyWindow}
use Rattle.hours.specs.Hours.{inside, is_open, openness, least, waiting, wait_answer, empty, added}
use Rattle.hours.specs.Rows.{hours_of, row_added}

-- the windows of a list, the last added first
abbrev built : List (ℕ × ℕ) → Hours
built [] = empty
built (w ∷ ws) = (added (built ws) w.0 w.1).hours

-- a station that is open for one minute, and its ends
one_minute : map (openness (built ((3, 4) ∷ []))) (2 ∷ 3 ∷ 4 ∷ 10079 ∷ 10080 ∷ []) ≡ Ok false ∷ Ok true ∷ Ok false ∷ Ok false ∷ Err OutOfRange ∷ []
unfolding added is_open openness inside
one_minute = refl

-- one that is open over the week's end, and one that closes with the week
over_the_end : map (openness (built ((10000, 100) ∷ []))) (9999 ∷ 10000 ∷ 10079 ∷ 0 ∷ 99 ∷ 100 ∷ []) ≡ Ok false ∷ Ok true ∷ Ok true ∷ Ok true ∷ Ok true ∷ Ok false ∷ []
unfolding added is_open openness inside
over_the_end = refl

to_the_end : map (openness (built ((5000, 0) ∷ []))) (4999 ∷ 5000 ∷ 10079 ∷ 0 ∷ []) ≡ Ok false ∷ Ok true ∷ Ok true ∷ Ok false ∷ []
unfolding added is_open openness inside
to_the_end = refl

-- the wait: now, later, over the week's end to the nearest of several windows, never, and of no minute
waits : map (wait_answer (built ((9000, 9010) ∷ (20, 30) ∷ (40, 50) ∷ []))) (25 ∷ 30 ∷ 8990 ∷ 10070 ∷ 10080 ∷ []) ≡ Ok (Some 0) ∷ Ok (Some 10) ∷ Ok (Some 10) ∷ Ok (Some 30) ∷ Err OutOfRange ∷ []
unfolding added is_open inside least waiting wait_answer
waits = refl

-- what is refused, and what is empty: 20 comes first
refusals : map (λ (w : ℕ × ℕ). (added (built []) w.0 w.1).answer) ((0, 10080) ∷ (10080, 0) ∷ (10080, 10080) ∷ (5, 5) ∷ (0, 1) ∷ []) ≡ Err OutOfRange ∷ Err OutOfRange ∷ Err OutOfRange ∷ Err EmptyWindow ∷ Ok tt ∷ []
unfolding added
refusals = refl

-- no room for a 33rd window, whatever it is
full : map (λ (w : ℕ × ℕ). (added (built (replicate 32 (0, 1))) w.0 w.1).answer) ((2, 3) ∷ (5, 5) ∷ []) ≡ Err OutOfRange ∷ Err OutOfRange ∷ []
unfolding added
full = refl

-- values that no call makes: of a count above 32 the first 32 pairs are asked, and a pair that is no window opens nothing
abbrev forged : ℕ → ℕ → ℕ → Hours
forged n o c = record { opens = replicate 32 o; closes = replicate 32 c; count = n }

forged_open : openness (forged 4294967295 3 4) 3 ≡ Ok true
unfolding is_open openness inside
forged_open = refl

forged_none : map (λ (w : ℕ × ℕ). is_open (forged 40 w.0 w.1) w.0) ((5, 5) ∷ (20000, 30000) ∷ (10079, 10080) ∷ []) ≡ replicate 3 false
unfolding is_open inside
forged_none = refl

-- a row: the count, 32 opening minutes, 32 closing minutes; one of 64 words has no room
short_row : row_added (replicate 64 0) 3 4 ≡ (20, replicate 64 0)
unfolding row_added
short_row = refl

long_row : row_added (replicate 66 0) 3 4 ≡ (0, 1 ∷ 3 ∷ (replicate 31 0 ++ 4 ∷ replicate 32 0))
unfolding row_added hours_of added
long_row = refl
