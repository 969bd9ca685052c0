-- Describes the code: what it computes of one window; proofs/OneWindow.antt ties it to the search of Hours.antt.
use Rattle.std.specs.Prelude.{ℕ, ◌+◌, ◌-◌, ◌%◌, cond}
use Rattle.hours.specs.Hours.{week, is_window, inside}

-- the minutes until a window is open, a week if it is none
unfoldable pub wait_of : ℕ → ℕ → ℕ → ℕ
wait_of o c m = cond (is_window o c) (cond (inside o c m) 0 ((o + week - m) % week)) week
