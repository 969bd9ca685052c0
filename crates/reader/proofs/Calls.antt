-- A reading call stage by stage: what each asks of those before it, and what it answers.
use mathlib.Core.Path.{◌≡◌, refl, sym, ap, ◌∙◌}
use mathlib.Core.Bool.{Bool, true, false, false≢true}
use mathlib.Core.List.{List, [], ◌∷◌, map}
use Prim.Native.Nat.{ℕ, ◌+◌, ◌*◌, ◌/◌, ◌≤◌, ◌<◌}
use native.Mathlib.Omega.{arith}
use borrow.Author.Tests.{ltb-true, ltb-false}
use lib.Dec.{ltb}
use lib.ListN.{length, take, drop, replicate, length-append, length-drop, length-map}
use lib.Seq.{take_at}
use Rattle.chars.specs.Utf8.{decode}
use Rattle.diag.specs.declared.Span.{Span}
use Rattle.lexer.specs.Tokens.{tokens}
use Rattle.lexer.specs.Words.{flat, onto}
use Rattle.lexer.proofs.Writes.{length-flat, tokens_of_bytes}
use Rattle.parser.specs.Row.{tokens_in}
use Rattle.parser.specs.Meaning.{token_of}
use Rattle.parser.proofs.Lines.{tokens-flat}
use Rattle.language.specs.Lines.{Line}
use Rattle.language.specs.Assembly as A
use Rattle.language.specs.Outcome.{Refusal, leaves_work_number, Reply, reply_number, refusal_of, zeros, words_needed, ReadOutcome, read_machine, read_outcome}
use Rattle.diag.specs.declared.Diagnostic.{Diagnostic}
use Rattle.diag.specs.Log as D
use Rattle.diag.proofs.Appended.{append_all-length}
use Rattle.diag.proofs.Cases.{by_test_lem}
use Rattle.assembler.specs.declared.Assembled.{Assembled}
use Rattle.assembler.specs.Rows.{rows}
use Rattle.assembler.specs.Entered.{entered}
use Rattle.assembler.specs.Records.{records_of}
use Rattle.assembler.specs.Assembled.{Tokenized, has_states, Outcome}
use Rattle.reader_theorems.specs.Ready.{lines_of, Ready}
use Rattle.reader_theorems.proofs.Few.{diagnostics_few}
use Rattle.reader_answer.specs.declared.Refusal as R
use Rattle.reader_answer.specs.declared.Answer.{Answer}
use Rattle.std.specs.Prelude.{Result, Err, Option, None, Some}
use Rattle.reader_answer.specs.Answer.{refusal_in, reply_in, read_in}
use Rattle.diag_report.specs.Report.{report_reply}
use Rattle.reader_admission.proofs.Admissions.{too_long, work_too_short_lem}
use Rattle.reader.proofs.Outcomes.{refused_outcome, reported_outcome, machine_outcome}

-- ---- refusals
module _ (t : List ℕ) (work : ℕ) (log sheet : List ℕ) where
  pub read-refused : (r : R.Refusal) → Some (refusal_in r) ≡ refusal_of t work → read_in (Err r) log sheet ≡ read_outcome t work log sheet
  read-refused r e = refused_outcome t work log sheet (refusal_in r) (sym e)

-- a text that is not refused is short enough, and work long enough
some-none : {r : Refusal} {X : Type 0} → ◌≡◌ {A = Option Refusal} (Some r) None → X
some-none z = absurd (let o : ◌≡◌ {A = ℕ} 0 1 = cc in omega arith)

module _ (t : List ℕ) (work : ℕ) (a : refusal_of t work ≡ None) where
  pub short : length t ≤ 0x400000
  short = by_test_lem (ltb 4194304 (length t)) (λ p. some-none (too_long t work (ltb-true 4194304 (length t) p) ∙ a)) (λ p. ltb-false 4194304 (length t) p)

  pub room : 6 * length t + 6 ≤ work
  room = by_test_lem (ltb work (6 * length t + 6)) (λ p. some-none (work_too_short_lem t work short (ltb-true work (6 * length t + 6) p) ∙ a)) (λ p. ltb-false work (6 * length t + 6) p)

-- ---- what is left of the log and of work

-- whether a reply leaves work
abbrev untouched : Reply → Bool
untouched r = leaves_work_number (reply_number r)

-- the reply to diagnostics does not leave work untouched
report_touches : (n k : ℕ) → untouched (report_reply n k) ≡ false
unfolding report_reply
report_touches n k = by_test_lem (ltb (n / 5) k) (λ p. rw (report_reply, p)) (λ p. rw (report_reply, p))

machine_touches : (ls : List (Line Span)) (n k : ℕ) → untouched (read_machine ls n k).reply ≡ false
unfolding read_machine
machine_touches ls n k = by_test_lem (ltb k (words_needed ls)) (λ p. rw (read_machine, p)) (λ p. rw (read_machine, p))

pub report-work : (x : Result Answer R.Refusal) (n k : ℕ) → reply_in x ≡ report_reply n k → untouched (reply_in x) ≡ false
report-work x n k e = ap untouched e ∙ report_touches n k

pub machine-work : (x : Result Answer R.Refusal) (ls : List (Line Span)) (sheet : List ℕ) (k : ℕ) → ((n : ℕ) → read_in x (zeros n) sheet ≡ read_machine ls n k) → untouched (reply_in x) ≡ false
machine-work x ls sheet k e = ap (λ (o : ReadOutcome (List ℕ)). untouched o.reply) (e 0) ∙ machine_touches ls 0 k

-- an answer that changes work is none that leaves it
pub never : (x : Result Answer R.Refusal) (w w' : List ℕ) → untouched (reply_in x) ≡ false → untouched (reply_in x) ≡ true → w' ≡ w
never x w w' e f = absurd (false≢true (sym e ∙ f))

module _ (t w : List ℕ) (a : refusal_of t (length w) ≡ None) where
  -- tokens at the front of work
  pub tokenize_room : 4 * length t + 4 ≤ length w
  tokenize_room = omega (arith, room t (length w) a)

  module _ (count : ℕ) (w₁ : List ℕ) (n : count ≡ length (tokens (decode t))) (e : w₁ ≡ onto (flat (tokens (decode t))) w) where
    size : length w₁ ≡ length w
    unfolding onto
    size =
        let ws : List ℕ = flat (tokens (decode t)) in
        omega (arith, ap length e, length-append ws (drop (length ws) w), length-drop (length ws) w, length-flat (tokens (decode t)), tokens_of_bytes t, tokenize_room)

    pub tokenized : Tokenized t count w₁
    unfolding onto
    tokenized =
        let ts = tokens (decode t) in
        let rest : List ℕ = drop (length (flat ts)) w in
        record {
          short = short t (length w) a;
          room = omega (arith, size, room t (length w) a);
          many = n;
          row = ap (rows count) e ∙ ap (λ l. take count l) (tokens-flat ts rest) ∙ take_at (map token_of ts) (tokens_in rest) count (length-map ts token_of ∙ sym n);
        }

    module _ (L S w₂ log₂ : List ℕ) (r : Assembled) (o : Outcome t count w₁ w₂ L log₂ r) where
      long : length log₂ ≡ length L
      long = ap (λ (l : D.Log). length l.row) o.written ∙ append_all-length (D.logged L 0) (records_of (A.diagnostics_of (lines_of t)))

      -- the sort has room in work
      pub report_room : 5 * r.errors ≤ length w₂
      report_room = omega (arith, o.errors, diagnostics_few t, o.entered.size, size, room t (length w) a)

      -- an answer that counts diagnostics
      module _ (some-errors : 0 < r.errors) (x : Result Answer R.Refusal) (log₃ sheet : List ℕ) (s : sheet ≡ replicate (length S) 0) (q : reply_in x ≡ report_reply (length log₂) r.errors)
          (l : (row : List ℕ) (ds : List Diagnostic) → D.logged log₂ r.errors ≡ D.append_all (D.logged row 0) ds → log₃ ≡ D.log_after (length log₂) (D.sort ds)) where
        log_is : log₃ ≡ D.log_after (length L) (D.sort (records_of (A.diagnostics_of (lines_of t))))
        log_is =
            l L (records_of (A.diagnostics_of (lines_of t))) o.written
            ∙ ap (λ (n : ℕ). D.log_after n (D.sort (records_of (A.diagnostics_of (lines_of t))))) long

        pub report_outcome : read_in x log₃ sheet ≡ read_outcome t (length w) L S
        report_outcome = go (A.diagnostics_of (lines_of t)) refl
          where
            go : (ds : List (A.Diagnostic Span)) → A.diagnostics_of (lines_of t) ≡ ds → read_in x log₃ sheet ≡ read_outcome t (length w) L S
            go [] e = absurd (omega (arith, o.errors, ap length e))
            go (d ∷ ds) e =
                let reply : reply_in x ≡ report_reply (length L) (length (d ∷ ds)) =
                q ∙ ap (λ (n : ℕ). report_reply n r.errors) long ∙ ap (λ (n : ℕ). report_reply (length L) n) (o.errors ∙ ap length e) in
                let log : log₃ ≡ D.log_after (length L) (D.sort (records_of (d ∷ ds))) = log_is ∙ ap (λ (k : List (A.Diagnostic Span)). D.log_after (length L) (D.sort (records_of k))) e in
                (λ j. record { reply = reply j; log = log j; sheet = s j }) ∙ reported_outcome t (length w) L S a d ds e

      -- no diagnostics
      module _ (no-errors : r.errors ≤ 0) where
        none_found : A.diagnostics_of (lines_of t) ≡ []
        none_found = go (A.diagnostics_of (lines_of t)) refl
          where
            go : (ds : List (A.Diagnostic Span)) → A.diagnostics_of (lines_of t) ≡ ds → ds ≡ []
            go [] e = refl
            go (d ∷ ds) e = absurd (omega (arith, o.errors, ap length e))

        pub machine-ready : Ready t count w₂ r.first
        machine-ready = record {
          short = short t (length w) a;
          room = omega (arith, o.entered.size, size, room t (length w) a);
          many = n;
          row = o.entered.row ∙ ap entered tokenized.row;
          names = λ y. o.named.sound (omega arith) (ap (has_states count r.first) o.rules ∙ y);
          declared = o.first;
          none_found = none_found;
        }

        pub machine_is : (x : Result Answer R.Refusal) (log₃ sheet : List ℕ) → log₃ ≡ zeros (length log₂) → ((n : ℕ) → read_in x (zeros n) sheet ≡ read_machine (lines_of t) n (length S)) → read_in x log₃ sheet ≡ read_outcome t (length w) L S
        machine_is x log₃ sheet e m =
            ap (λ (l : List ℕ). read_in x l sheet) (e ∙ ap zeros long) ∙ m (length L) ∙ sym (machine_outcome t (length w) L S a none_found)
