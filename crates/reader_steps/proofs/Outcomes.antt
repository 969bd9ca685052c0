-- A reading call over records, stage by stage: unused records are zeros, and a log that holds the sorted diagnostics has them as
-- its records, unused ones behind.
use mathlib.Core.Path.{◌≡◌, refl, sym, ap, ◌∙◌}
use mathlib.Core.List.{List, [], ◌∷◌, ◌++◌, append-nil}
use Prim.Native.Nat.{ℕ, zero, suc, ◌+◌, ◌-◌, ◌*◌, ◌/◌, ◌≤◌, ◌<◌}
use native.Mathlib.Nat.{zero-add, suc-add}
use native.Mathlib.Omega.{arith}
use borrow.Author.Tests.{lt-ltb, le-ltb, le-leb, lt-leb}
use lib.ListN.{length, replicate, length-map}
use Rattle.lexer.specs.Tokens.{Span}
use Rattle.language.specs.Assembly as A
use Rattle.language.specs.Outcome.{Refusal, log_too_short, refused, diagnosed, refusal_of, zeros, ReadOutcome, read_machine, read_outcome}
use Rattle.diag.specs.declared.Diagnostic.{Diagnostic}
use Rattle.diag.specs.Log.{flat, records, start_of, sort, padded, log_after}
use Rattle.diag.proofs.Records.{length-flat, records-flat}
use Rattle.diag.proofs.Sorting.{sort-length}
use Rattle.diag_records.specs.Unused.{unused}
use Rattle.assembler.specs.Records.{record_of, records_of}
use Rattle.reader_theorems.specs.Ready.{lines_of}
use Rattle.std.specs.Prelude.{Result, None, Some}
use Rattle.reader_answer.specs.declared.Answer.{Answer}
use Rattle.reader_answer.specs.declared.Refusal as Code
use Rattle.reader_answer.specs.Answer as R
use Rattle.reader_answer.specs.Answer.{read_in}
use Rattle.diag_report.specs.Report.{report_reply}
use Rattle.reader.proofs.Outcomes.{refused_outcome, reported_outcome, machine_outcome}
use Rattle.reader_steps.specs.Records.{read_records}

-- ---- records of words
records-zeros : (n : ℕ) → records n (zeros (5 * n)) ≡ replicate n unused
unfolding records
records-zeros zero = refl
records-zeros (suc n) =
    let e : 5 * suc n ≡ suc (suc (suc (suc (suc (5 * n))))) = omega arith in
    ap (λ (k : ℕ). records (suc n) (zeros k)) e ∙ ap (λ (ds : List Diagnostic). unused ∷ ds) (records-zeros n)

records-behind : (ds : List Diagnostic) (m : ℕ) (r : List ℕ) → records (length ds + m) (flat ds ++ r) ≡ ds ++ records m r
unfolding flat records
records-behind [] m r = ap (λ (k : ℕ). records k r) (zero-add m)
records-behind (d ∷ ds) m r = ap (λ (k : ℕ). records k (flat (d ∷ ds) ++ r)) (suc-add (length ds) m) ∙ ap (λ (l : List Diagnostic). d ∷ l) (records-behind ds m r)

records-all : (ds : List Diagnostic) → records (length ds) (flat ds) ≡ ds
records-all ds = ap (records (length ds)) (sym (append-nil (flat ds))) ∙ records-flat ds []

-- diagnostics at the front of zeros
records-padded : (n : ℕ) (ds : List Diagnostic) → length ds ≤ n → records n (padded (5 * n) ds) ≡ ds ++ replicate (n - length ds) unused
unfolding padded
records-padded n ds h =
    let m : ℕ = n - length ds in
    let e : n ≡ length ds + m = omega arith in
    let z : 5 * n - 5 * length ds ≡ 5 * m = omega arith in
    ap (λ (k : ℕ). records n (flat ds ++ zeros k)) z ∙ ap (λ (k : ℕ). records k (flat ds ++ zeros (5 * m))) e ∙ records-behind ds m (zeros (5 * m))
    ∙ ap (λ (l : List Diagnostic). ds ++ l) (records-zeros m)

-- the outcome of a call on words as one over n records
abbrev of_words : ℕ → ReadOutcome (List ℕ) → ReadOutcome (List Diagnostic)
of_words n o = record { reply = o.reply; log = records n o.log; sheet = o.sheet }

module _ (t : List ℕ) (work : ℕ) (log : List Diagnostic) (sheet : List ℕ) where
  of_words_lem : (o : ReadOutcome (List ℕ)) → o ≡ read_outcome t work (flat log) sheet → of_words (length log) o ≡ read_records t work log sheet
  unfolding read_records
  of_words_lem o e = ap (of_words (length log)) e

  -- rows 1 to 4: nothing is changed
  pub not-admitted : (x : Result Answer Code.Refusal) (r : Refusal) → refusal_of t work ≡ Some r → R.reply_in x ≡ refused r → read_in x log sheet ≡ read_records t work log sheet
  not-admitted x r e q =
      (λ j. record { reply = q j; log = sym (records-all log) j; sheet = sheet })
      ∙ of_words_lem (record { reply = refused r; log = flat log; sheet = sheet }) (refused_outcome t work (flat log) sheet r e)

  module _ (a : refusal_of t work ≡ None) where
    -- no diagnostics: a machine, or row 6
    pub machine-read : A.diagnostics_of (lines_of t) ≡ [] → (x : Result Answer Code.Refusal) (s : List ℕ) → ((n : ℕ) → R.read_in x (zeros n) s ≡ read_machine (lines_of t) n (length sheet))
        → read_in x (replicate (length log) unused) s ≡ read_records t work log sheet
    machine-read z x s m =
        let n : ℕ = length (flat log) in
        let clear : records (length log) (zeros n) ≡ replicate (length log) unused = ap (λ (k : ℕ). records (length log) (zeros k)) (length-flat log) ∙ records-zeros (length log) in
        (λ j. record { reply = R.reply_in x; log = sym clear j; sheet = s }) ∙ of_words_lem (R.read_in x (zeros n) s) (m n ∙ sym (machine_outcome t work (flat log) sheet a z))

    -- diagnostics
    module _ (c : ℕ) (all : c ≡ length (A.diagnostics_of (lines_of t))) (some-found : 0 < c) where
      abbrev found : List Diagnostic
      found = sort (records_of (A.diagnostics_of (lines_of t)))

      found-length : length found ≡ c
      unfolding records_of
      found-length = sort-length start_of (records_of (A.diagnostics_of (lines_of t))) ∙ length-map (A.diagnostics_of (lines_of t)) record_of ∙ sym all

      reported : ◌≡◌ {A = ReadOutcome (List ℕ)} (record { reply = report_reply (5 * length log) c; log = log_after (5 * length log) found; sheet = zeros (length sheet) }) (read_outcome t work (flat log) sheet)
      reported =
          ap (λ (n : ℕ). record { reply = report_reply n c; log = log_after n found; sheet = zeros (length sheet) }) (sym (length-flat log)) ∙ go (A.diagnostics_of (lines_of t)) refl
        where
          go : (ds : List (A.Diagnostic Span)) → A.diagnostics_of (lines_of t) ≡ ds
              → ◌≡◌ {A = ReadOutcome (List ℕ)} (record { reply = report_reply (length (flat log)) c; log = log_after (length (flat log)) found; sheet = zeros (length sheet) }) (read_outcome t work (flat log) sheet)
          go [] e = absurd (omega (arith, all, ap length e))
          go (d ∷ ds) e =
              let n : ℕ = length (flat log) in
              let count : c ≡ length (d ∷ ds) = all ∙ ap length e in
              (λ j. record { reply = report_reply n (count j); log = log_after n (sort (records_of (e j))); sheet = zeros (length sheet) })
              ∙ reported_outcome t work (flat log) sheet a d ds e

      -- too many: row 5
      pub too_many : length log < c → (x : Result Answer Code.Refusal) → R.reply_in x ≡ refused (log_too_short c) → read_in x (replicate (length log) unused) (zeros (length sheet)) ≡ read_records t work log sheet
      unfolding report_reply log_after
      too_many h x q =
          let n : ℕ = length log in
          let size = found-length in
          let reply : report_reply (5 * n) c ≡ refused (log_too_short c) = rw (report_reply, lt-ltb (5 * n / 5) c (omega arith)) in
          let none_kept : log_after (5 * n) found ≡ zeros (5 * n) = rw (lt-leb (5 * length found) (5 * n) (omega arith)) in
          (λ j. record { reply = (q ∙ sym reply) j; log = sym (ap (records n) none_kept ∙ records-zeros n) j; sheet = zeros (length sheet) }) ∙ of_words_lem _ reported

      -- all of them, sorted
      pub all-kept : c ≤ length log → (x : Result Answer Code.Refusal) → R.reply_in x ≡ diagnosed c → read_in x (found ++ replicate (length log - c) unused) (zeros (length sheet)) ≡ read_records t work log sheet
      unfolding report_reply log_after
      all-kept h x q =
          let n : ℕ = length log in
          let size = found-length in
          let reply : report_reply (5 * n) c ≡ diagnosed c = rw (report_reply, le-ltb (5 * n / 5) c (omega arith)) in
          let kept : log_after (5 * n) found ≡ padded (5 * n) found = rw (le-leb (5 * length found) (5 * n) (omega arith)) in
          let log_is : records n (log_after (5 * n) found) ≡ found ++ replicate (n - c) unused =
          ap (records n) kept ∙ records-padded n found (omega arith) ∙ ap (λ (k : ℕ). found ++ replicate (n - k) unused) size in
          (λ j. record { reply = (q ∙ sym reply) j; log = sym log_is j; sheet = zeros (length sheet) }) ∙ of_words_lem _ reported
