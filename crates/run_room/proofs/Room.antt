-- What is printed always has room: 2,163,712 bytes suffice for every text, and any steps and cells that the program takes.
-- A cell has eight bytes at most, a name those of the text, and the diagnostics that the log holds have 158 bytes each.
use Prim.Native.Nat.{ℕ, ◌*◌, ◌/◌, ◌≤◌, min}
use native.Mathlib.Omega.{arith}
use mathlib.Core.Bool.{true, false}
use mathlib.Core.List.{List, []}
use mathlib.Core.Path.{◌≡◌, refl, ◌∙◌}
use borrow.Author.Tests.{ltb-false}
use lib.Dec.{ltb}
use lib.ListN.{length, length-replicate}
use Rattle.std.specs.Prelude.{Option, None, Some}
use Rattle.machine.specs.declared.Head.{Head}
use Rattle.language.specs.Content.{Content}
use Rattle.language.specs.Outcome.{refusal_number, refusal_value, work_needed, zeros, Reply, machine, diagnosed, refused, ReadOutcome, read_outcome, admitted}
use Rattle.language.proofs.Every.{by_test}
use Rattle.running.specs.Run.{run_on}
use Rattle.running.specs.Refusals.{Unfit, unfit_number, unfit_for}
use Rattle.running.specs.Batch.{content_of_text, entry_refusal}
use Rattle.running.proofs.Readings.{read_keeps}
use Rattle.running.specs.Fit.{Fit}
use Rattle.running.proofs.Starts.{fit, run_on-length}
use Rattle.form_theorems.proofs.Readings.{machine-read}
use Rattle.list_lines.specs.Listing.{diagnostic_lines}
use Rattle.list_room.proofs.Pieces.{Short, ◌▸◌, less, said, ended, number_short, bytes_short, each_short, refused_short}
use Rattle.run_lines.specs.Lines.{ended_lines}
use Rattle.run_arguments.specs.Arguments.{max_cells}
use Rattle.run_lines.specs.Printed.{refusal_lines, lines, max_text, max_records, max_words, text_lines, printed}
use Rattle.run_room.proofs.Kept.{ran_kept}
use Rattle.run_room.proofs.Named.{text_bound}
use Rattle.run_room.proofs.Shown.{run_short}

-- ---- diagnostics

log_short : (text : List ℕ) (n : ℕ) (log : List ℕ) → length log ≡ 5120 → Short 161826 (diagnostic_lines text n log)
unfolding diagnostic_lines
log_short text n log e =
    less (omega (arith, e)) (said "diagnostics=" ▸ number_short n ▸ ended ▸ each_short text (min n (length log / 5)) log)

-- ---- an answer

module _ (text : List ℕ) (fits : length text ≤ 65536) (steps cells : ℕ) (few : cells ≤ 262144) where
  -- what is printed for an answer has room
  abbrev Fits : ReadOutcome (List ℕ) → Type 0
  Fits o = Short 2163006 (lines text steps cells o)

  abbrev m : Content
  m = content_of_text text

  ran_fits : admitted text ≡ true → Fit m cells → Short 2163006 (ended_lines text m (run_on m steps (zeros cells)))
  ran_fits ok f =
      let i : length (run_on m steps (zeros cells)).last.cells ≡ cells = run_on-length m steps (zeros cells) ∙ length-replicate cells 0 in
      less (omega (arith, i, fits, few))
      (run_short (length text) text m (run_on m steps (zeros cells)) (ran_kept (length text) m (text_bound text ok) steps cells) f.few_tapes)

  machine_fits : (h : Head) (log sheet : List ℕ) → admitted text ≡ true → Fits (record { reply = machine h; log = log; sheet = sheet })
  unfolding lines entry_refusal refusal_lines
  machine_fits h log sheet ok = go (unfit_for m cells) refl
    where
      go : (o : Option Unfit) → unfit_for m cells ≡ o → Fits (record { reply = machine h; log = log; sheet = sheet })
      go (Some u) e = rw (lines, entry_refusal, e) (less (omega arith) (refused_short (unfit_number u) 0))
      go None e = rw (lines, entry_refusal, e) (ran_fits ok (fit m cells e))

  reply_fits : (r : Reply) (work : ℕ) (given log sheet left : List ℕ) → ◌≡◌ {A = ReadOutcome (List ℕ)} (record { reply = r; log = log; sheet = sheet }) (read_outcome text work given left)
      → length log ≡ 5120 → Fits (record { reply = r; log = log; sheet = sheet })
  unfolding lines entry_refusal refusal_lines
  reply_fits (refused x) work given log sheet left e k = less (omega arith) (refused_short (refusal_number x) (refusal_value x))
  reply_fits (diagnosed n) work given log sheet left e k = less (omega arith) (bytes_short text ▸ log_short text n log k)
  reply_fits (machine h) work given log sheet left e k = machine_fits h log sheet (machine-read text work given left h log sheet e).is_admitted

  outcome_fits : (work : ℕ) (given left : List ℕ) → length given ≡ 5120 → Fits (read_outcome text work given left)
  outcome_fits work given left k =
      let o = read_outcome text work given left in
      reply_fits o.reply work given o.log o.sheet left refl ((read_keeps text work given left).0 ∙ k)

-- ---- every text

-- the bytes that suffice
abbrev pub most_bytes : ℕ
most_bytes = 2163712

-- all that is printed has room
pub room : (text : List ℕ) (steps cells : ℕ) → length (printed text steps cells) ≤ most_bytes
unfolding printed text_lines
room text steps cells = by_test (ltb max_text (length text))
    (λ e. rw (e, printed) (omega (arith, (refused_short 1 0).short [])))
    (λ e. rw (e, printed) (omega (
      arith,
      (outcome_fits text (ltb-false _ _ e) steps (min cells max_cells) (omega arith)
          (work_needed max_text) (zeros (5 * max_records)) (zeros max_words) (length-replicate {A = ℕ} 5120 0)).short [],
    )))
