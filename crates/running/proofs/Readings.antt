-- A reading keeps the lengths of log and sheet, and one that gives a machine knows nothing else of them.
use Prim.Native.Nat.{ℕ, ◌-◌, ◌*◌, ◌/◌, ◌≤◌}
use native.Mathlib.Omega.{arith}
use mathlib.Core.List.{List, [], ◌∷◌, map}
use Rattle.std.specs.Prelude.{Option, None, Some}
use mathlib.Core.Path.{◌≡◌, refl, ap, ap₂, ◌∙◌}
use borrow.Author.Tests.{ltb-false}
use lib.Dec.{ltb}
use lib.ListN.{length, length-replicate, length-append, length-map}
use Rattle.chars.specs.Utf8.{decode}
use Rattle.lexer.specs.Tokens.{Span}
use Rattle.diag.proofs.Records.{length-flat}
use Rattle.machine.specs.declared.Head.{Head}
use Rattle.language.specs.Lines.{Line, read_lines}
use Rattle.language.specs.Assembly.{Diagnostic, diagnostics}
use Rattle.language.specs.Infer.{machine_of}
use Rattle.language.specs.Layout.{record_of, log_words, sheet_words}
use Rattle.language.specs.Outcome.{words_needed, Refusal, refusal_of, zeros, filled}
use Rattle.language.specs.Outcome.{machine, refused, ReadOutcome, read_outcome}
use Rattle.language.specs.Outcome.{read_with, read_machine, read_diagnostics}
use Rattle.language.proofs.Every.{by_test}
use Rattle.language.proofs.ReadCounts.{read-sheet_length}

-- ---- lengths

filled-length : (ws : List ℕ) (n : ℕ) → length ws ≤ n → length (filled ws n) ≡ n
filled-length ws n i =
    let k = n - length ws in
    length-append ws (zeros k) ∙ omega (arith, length-replicate {A = ℕ} k 0)

-- five words to a diagnostic
words-length : (ds : List (Diagnostic Span)) → length (log_words ds) ≡ 5 * length ds
unfolding log_words
words-length ds = length-flat (map record_of ds) ∙ ap (λ (n : ℕ). 5 * n) (length-map ds record_of)

-- both rows have the lengths that they had
abbrev pub LengthsKept : ReadOutcome (List ℕ) → ℕ → ℕ → Type 0
LengthsKept o n s = (length o.log ≡ n) × (length o.sheet ≡ s)

diagnostics_keep : (n s : ℕ) (ds : List (Diagnostic Span)) → LengthsKept (read_diagnostics ds n s) n s
unfolding read_diagnostics
diagnostics_keep n s ds = by_test (ltb (n / 5) (length ds))
    (λ b. rw (read_diagnostics, b) (length-replicate n 0, length-replicate s 0))
    (λ b.
    let i = fits (ltb-false (n / 5) (length ds) b) in
    rw (read_diagnostics, b) (filled-length (log_words ds) n i, length-replicate s 0))
  where
    fits : length ds ≤ n / 5 → length (log_words ds) ≤ n
    fits i = omega (arith, words-length ds)

sheet_fits : (s : ℕ) (cs : List ℕ) → words_needed (read_lines cs) ≤ s → length (sheet_words (machine_of (read_lines cs))) ≤ s
unfolding words_needed
sheet_fits s cs i = omega (arith, read-sheet_length cs)

machine_keeps : (n s : ℕ) (cs : List ℕ) → LengthsKept (read_machine (read_lines cs) n s) n s
unfolding read_machine
machine_keeps n s cs = by_test (ltb s (words_needed (read_lines cs)))
    (λ b. rw (read_machine, b) (length-replicate n 0, length-replicate s 0))
    (λ b.
    let words = sheet_words (machine_of (read_lines cs)) in
    let fits = sheet_fits s cs (ltb-false s (words_needed (read_lines cs)) b) in
    rw (read_machine, b) (length-replicate n 0, filled-length words s fits))

with_keeps : (n s : ℕ) (cs : List ℕ) (ds : List (Diagnostic Span)) → LengthsKept (read_with ds (read_lines cs) n s) n s
unfolding read_with
with_keeps n s cs [] = machine_keeps n s cs
with_keeps n s cs (d ∷ ds) = diagnostics_keep n s (d ∷ ds)

-- a reading keeps the lengths of log and sheet
pub read_keeps : (t : List ℕ) (work : ℕ) (log sheet : List ℕ) → LengthsKept (read_outcome t work log sheet) (length log) (length sheet)
unfolding read_outcome
read_keeps t work log sheet = go (refusal_of t work) refl
  where
    go : (o : Option Refusal) → refusal_of t work ≡ o → LengthsKept (read_outcome t work log sheet) (length log) (length sheet)
    go (Some r) q = rw (read_outcome, q) (refl, refl)
    go None q =
        let ls : List (Line Span) = read_lines (decode t) in
        rw (read_outcome, q) (with_keeps (length log) (length sheet) (decode t) (diagnostics ls))

-- ---- what it held before

-- a refused text is no machine
pub not_machine : (r : Refusal) (h : Head) → refused r ≡ machine h → ⊥
not_machine r h q = let z : ◌≡◌ {A = ℕ} 0 1 = cc in omega arith

-- a reading that gives a machine gives the same head, log and sheet with any other log and sheet of the same lengths
pub read_again : (t : List ℕ) (work : ℕ) (log sheet log' sheet' : List ℕ) (h : Head)
    → (read_outcome t work log sheet).reply ≡ machine h → length log ≡ length log' → length sheet ≡ length sheet'
    → read_outcome t work log sheet ≡ read_outcome t work log' sheet'
unfolding read_outcome
read_again t work log sheet log' sheet' h e n s = go (refusal_of t work) refl
  where
    go : (o : Option Refusal) → refusal_of t work ≡ o → read_outcome t work log sheet ≡ read_outcome t work log' sheet'
    go (Some r) q = absurd (not_machine r h (rw (read_outcome, q) at e))
    go None q =
        let ls : List (Line Span) = read_lines (decode t) in
        rw (read_outcome, q) (ap₂ (read_with (diagnostics ls) ls) n s)
