-- The lines of a machine that was read, by whether it is refused, and of any answer.
use mathlib.Core.Path.{◌≡◌, sym, ap, ◌∙◌}
use Prim.Native.Nat.{ℕ, ◌*◌}
use mathlib.Core.List.{List, []}
use lib.ListN.{length, take, length-replicate}
use Rattle.std.specs.Prelude.{Option, None, Some, option_map, Result, Ok, Err}
use Rattle.chars.specs.Utf8.{encode}
use Rattle.machine.specs.declared.Head.{Head}
use Rattle.language.specs.Content.{Content}
use Rattle.language.specs.Agreement.{content_of_answer}
use Rattle.language.specs.Plain.{◌⨾◌}
use Rattle.language.specs.Outcome.{refusal_number, refusal_value, work_needed, zeros, read_outcome, machine}
use Rattle.reader_answer.specs.declared.Refusal.{Refusal}
use Rattle.reader_answer.specs.declared.Answer.{Answer}
use Rattle.reader_answer.specs.declared.Answer.TheVariants.{Machine, Diagnostics}
use Rattle.reader_answer.specs.Answer.{refusal_in, read_in}
use Rattle.form_theorems.specs.Read.{ReadAs}
use Rattle.form_theorems.proofs.Readings.{machine-read}
use Rattle.running.specs.Tape.{half, tape_cells}
use Rattle.running.specs.Run.{Ended, run_on}
use Rattle.running.specs.Refusals.{unfit_number, unfit_for}
use Rattle.running.specs.Batch.{content_of_text, entry_refusal}
use Rattle.runner_answer.specs.declared.Unfit.{Unfit}
use Rattle.runner_answer.specs.Answer.{unfit_in}
use Rattle.runner_names_theorems.proofs.SheetNames.{content_is}
use Rattle.emit.specs.declared.Output.{Output}
use Rattle.emit.proofs.Chain.{◌▹◌}
use Rattle.list_lines.specs.Listing.{bytes_line, diagnostic_lines, refused_line}
use Rattle.list_lines.specs.Puts.{Puts}
use Rattle.list_lines.proofs.Chain.{same}
use Rattle.run_lines.specs.Lines.{tapes_line, stop_line, steps_line, nonblank_line, state_line, tape_lines, ended_lines}
use Rattle.run_lines.specs.Printed.{refusal_lines, lines, max_text, max_records, max_words, text_lines}
use Rattle.run_lines.proofs.Alone.{lines_alone, machine_alone}
use Rattle.run_listing.specs.Outcome.{machine_outcome}

-- ---- a run that ended

module _ (t : List ℕ) (m : Content) (head : Head) (tapes : m.tapes ≡ head.tapes) (blank : m.blank ≡ head.blank) (e : Ended) where
  pub put_ended : (h own : ℕ) → h ≡ half (length e.last.cells) head.tapes → own ≡ tape_cells (half (length e.last.cells) head.tapes) head.tapes
      → (name : List ℕ) → name ≡ encode e.last.state → {o a b c d f g r : Output}
      → Puts (bytes_line t) o a → Puts (tapes_line head.tapes h) a b → Puts (stop_line e.stop) b c → Puts (steps_line e.steps) c d
      → Puts (nonblank_line head.blank (take own e.last.cells)) d f → Puts (state_line name) f g
      → Puts (tape_lines h head.blank e.last.heads e.last.cells) g r → Puts (ended_lines t m e) o r
  unfolding ended_lines
  put_ended h own p q name s u v w x y z j = rw (tapes, blank, ← q, ← p, ← s) (u ▹ v ▹ w ▹ x ▹ y ▹ z ▹ j)

-- ---- a machine

module _ (t : List ℕ) (steps cells : ℕ) (h : Head) {o r : Output} where
  pub put_unfit : (u : Unfit) (n : ℕ) → Some (unfit_in u) ≡ unfit_for (content_of_text t) cells → n ≡ unfit_number (unfit_in u)
      → Puts (refused_line n 0) o r → Puts (lines t steps cells (machine_outcome h)) o r
  unfolding lines entry_refusal refusal_lines
  put_unfit u n e f w = rw (lines, entry_refusal, sym e) (rw f at w)

  pub put_run : None ≡ unfit_for (content_of_text t) cells
      → Puts (ended_lines t (content_of_text t) (run_on (content_of_text t) steps (zeros cells))) o r → Puts (lines t steps cells (machine_outcome h)) o r
  unfolding lines entry_refusal refusal_lines
  put_run e w = rw (lines, entry_refusal, sym e) w

-- the refusal that was found is that of the text's machine
pub unfit_of_text : (t : List ℕ) (head : Head) (sheet : List ℕ) → ReadAs t head sheet → (cells : ℕ) (u : Option Unfit)
    → option_map unfit_in u ≡ unfit_for (content_of_answer (record { head = head; sheet = sheet; text = t })) cells
    → option_map unfit_in u ≡ unfit_for (content_of_text t) cells
unfit_of_text t head sheet read cells u e = e ∙ ap (λ m. unfit_for m cells) (content_is t head sheet read)

-- ---- an answer

module _ (t : List ℕ) (steps cells : ℕ) (work : ℕ) (log sheet : List ℕ) (a : Result Answer Refusal) (log' sheet' : List ℕ)
    (read : read_in a log' sheet' ≡ read_outcome t work log sheet) where
  pub machine_read : (x : Answer) (h : Head) → a ≡ Ok x → x ≡ Machine h → ReadAs t h sheet'
  machine_read x h e f = machine-read t work log sheet h log' sheet' (rw (e, f) at read)

  module _ (enough : work ≡ work_needed max_text) (logs : length log ≡ 5 * max_records) (sheets : length sheet ≡ max_words) {o r : Output} where
    whole : Puts (lines t steps cells (read_in a log' sheet')) o r → Puts (text_lines t steps cells) o r
    unfolding text_lines
    whole w =
        let z : ℕ = 0 in
        let alone = lines_alone t steps cells work log (zeros (5 * max_records)) sheet (zeros max_words) (logs ∙ sym (length-replicate (5 * max_records) z)) (sheets ∙ sym (length-replicate max_words z)) in
        let as_given = ap (λ k. lines t steps cells (read_outcome t k (zeros (5 * max_records)) (zeros max_words))) enough in
        same (ap (lines t steps cells) read ∙ alone ∙ as_given) w

    pub put_machine : (x : Answer) (h : Head) → a ≡ Ok x → x ≡ Machine h → Puts (lines t steps cells (machine_outcome h)) o r
        → Puts (text_lines t steps cells) o r
    put_machine x h e f w = whole (rw (e, f) (same (sym (machine_alone t steps cells h log' sheet')) w))

    pub put_diagnosed : (x : Answer) (n : ℕ) → a ≡ Ok x → x ≡ Diagnostics n → Puts (bytes_line t ⨾ diagnostic_lines t n log') o r
        → Puts (text_lines t steps cells) o r
    unfolding lines entry_refusal refusal_lines
    put_diagnosed x n e f w = whole (rw (e, f) w)

    pub put_refused : (x : Refusal) → a ≡ Err x → (n v : ℕ) → n ≡ refusal_number (refusal_in x) → v ≡ refusal_value (refusal_in x)
        → Puts (refused_line n v) o r → Puts (text_lines t steps cells) o r
    unfolding lines entry_refusal refusal_lines
    put_refused x e n v p q w = whole (rw (e, ← p, ← q) w)
