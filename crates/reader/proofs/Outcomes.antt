-- A reading call stage by stage: what the definition answers once a stage is decided.
use mathlib.Core.Path.{◌≡◌, refl, sym, ap, ◌∙◌}
use mathlib.Core.List.{List, [], ◌∷◌}
use Rattle.std.specs.Prelude.{None, Some}
use Prim.Native.Nat.{ℕ, ◌+◌}
use native.Mathlib.Omega.{arith}
use lib.ListN.{length}
use Rattle.chars.specs.Utf8.{decode}
use Rattle.diag.specs.declared.Span.{Span}
use Rattle.language.specs.Lines.{Line, read_lines}
use Rattle.language.specs.Assembly as A
use Rattle.language.specs.Outcome.{Refusal, refusal_of, zeros, refused, ReadOutcome, read_diagnostics, read_machine, read_with, read_outcome}
use Rattle.diag.specs.Log as D
use Rattle.assembler.specs.Records.{records_of}
use Rattle.diag_report.specs.Report.{report_reply}
use Rattle.reader.proofs.Reports.{sort-length, report-same}

-- the lines of a text
abbrev lines_of : List ℕ → List (Line Span)
lines_of t = read_lines (decode t)

-- with any diagnostic there is no machine
some-diagnostics : (x : List (A.Diagnostic Span)) (n : ℕ) (ls : List (Line Span)) (log sheet : ℕ) → length x ≡ 1 + n → read_diagnostics x log sheet ≡ read_with x ls log sheet
unfolding read_with
some-diagnostics [] n ls log sheet e = absurd (omega arith)
some-diagnostics (x ∷ xs) n ls log sheet e = refl

module _ (t : List ℕ) (work : ℕ) (log sheet : List ℕ) where
  -- rows 1 to 4: nothing is changed
  pub refused_outcome : (r : Refusal) → refusal_of t work ≡ Some r → ◌≡◌ {A = ReadOutcome (List ℕ)} (record { reply = refused r; log = log; sheet = sheet }) (read_outcome t work log sheet)
  unfolding read_outcome
  refused_outcome r e = rw (read_outcome, e)

  module _ (a : refusal_of t work ≡ None) where
    admitted_outcome : read_outcome t work log sheet ≡ read_with (A.diagnostics (lines_of t)) (lines_of t) (length log) (length sheet)
    unfolding read_outcome
    admitted_outcome = rw (read_outcome, a)

    -- diagnostics, sorted, or row 5
    pub reported_outcome : (d : A.Diagnostic Span) (ds : List (A.Diagnostic Span)) → A.diagnostics_of (lines_of t) ≡ d ∷ ds
        → ◌≡◌ {A = ReadOutcome (List ℕ)} (record { reply = report_reply (length log) (length (d ∷ ds)); log = D.log_after (length log) (D.sort (records_of (d ∷ ds))); sheet = zeros (length sheet) }) (read_outcome t work log sheet)
    unfolding A.diagnostics records_of
    reported_outcome d ds e =
        report-same (d ∷ ds) (length log) (length sheet)
        ∙ some-diagnostics (A.sort (d ∷ ds)) (length ds) (lines_of t) (length log) (length sheet) (sort-length (d ∷ ds) ∙ omega arith)
        ∙ sym (admitted_outcome ∙ ap (λ (x : List (A.Diagnostic Span)). read_with (A.sort x) (lines_of t) (length log) (length sheet)) e)

    module _ (None-found : A.diagnostics_of (lines_of t) ≡ []) where
      pub machine_outcome : read_outcome t work log sheet ≡ read_machine (lines_of t) (length log) (length sheet)
      unfolding A.diagnostics A.sort read_with
      machine_outcome = admitted_outcome ∙ ap (λ (x : List (A.Diagnostic Span)). read_with (A.sort x) (lines_of t) (length log) (length sheet)) None-found
