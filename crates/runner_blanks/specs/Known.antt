-- What is known of the cells of a batch from one run to the next: describes the code.
use Rattle.std.specs.Prelude.{ℕ, ◌+◌, ◌-◌, ◌*◌, ◌<◌, ◌≤◌, ◌≡◌, List, length, get_or}
use Rattle.running.specs.Tape.{half, cell_at}
use Rattle.runner_blanks.specs.declared.Blanks.{Blanks}

-- the cells of the tapes that stand at least so far from position 0 hold a blank
abbrev pub BlankBeyond : Blanks → List ℕ → Type 0
BlankBeyond b cells =
    let h = half (length cells) b.tapes in
    (j p : ℕ) → j < b.tapes → p < 2 * h → b.reach ≤ (h - p) + (p - h) → get_or cells (cell_at h j p) 0 ≡ b.blank
