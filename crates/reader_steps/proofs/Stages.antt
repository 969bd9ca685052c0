-- What opening a text gives at each of its ends.
use Rattle.std.specs.Prelude.{◌≢◌, Result, Ok, Err, Some, None}
use mathlib.Core.Path.{◌≡◌, refl, sym, ap, ◌∙◌}
use mathlib.Core.List.{List, [], ◌∷◌, ◌++◌}
use Prim.Native.Nat.{ℕ, ◌-◌, ◌≤◌, ◌<◌}
use native.Mathlib.Omega.{arith}
use lib.ListN.{length, take, replicate, length-map}
use Rattle.language.specs.Assembly.{diagnostics_of}
use Rattle.language.specs.Outcome.{refusal_of, zeros, read_machine}
use Rattle.diag.specs.declared.Diagnostic.{Diagnostic}
use Rattle.diag.specs.Log.{sort}
use Rattle.diag_records.specs.Unused.{unused}
use Rattle.assembler.specs.Records.{record_of, records_of}
use Rattle.diag_search.specs.declared.Search.{Search}
use Rattle.diag_search.specs.Pending.{pending}
use Rattle.reader_theorems.specs.Ready.{lines_of}
use Rattle.reader_answer.specs.declared.Refusal.{Refusal}
use Rattle.reader_answer.specs.declared.Refusal.TheVariants.{LogTooShort}
use Rattle.reader_answer.specs.declared.Answer.{Answer}
use Rattle.reader_answer.specs.declared.Answer.TheVariants.{Diagnostics}
use Rattle.reader_answer.specs.Answer as R
use Rattle.reader_answer.specs.Answer.{read_in}
use Rattle.reader.proofs.Calls.{machine-work}
use Rattle.reader_steps.specs.Begun.{Begun}
use Rattle.reader_steps.proofs.Begins.{none_found}
use Rattle.reader_steps.proofs.Outcomes.{machine-read, too_many, all-kept}
use Rattle.reader_steps.specs.Opens.{Opens}
use Rattle.std.proofs.Math.Seq.{take-length}

-- an admitted text
module _ (t w : List ℕ) (n : ℕ) (sheet : List ℕ) (a : refusal_of t (length w) ≡ None) (w₁ : List ℕ) (s : Search) (b : Begun t w₁ s) where
  -- a machine, or row 6
  pub opens_machine : s.errors ≡ 0 → (x : Result Answer Refusal) (w₂ sheet₂ : List ℕ) → ((k : ℕ) → R.read_in x (zeros k) sheet₂ ≡ read_machine (lines_of t) k (length sheet))
      → Opens t w n sheet w₂ sheet₂ (record { answer = x; found = None })
  opens_machine zero x w₂ sheet₂ m = record {
    answers = λ log same. machine-read t (length w) log sheet a (none_found t w₁ s b zero) x sheet₂ m;
    reports = tt;
    touches = machine-work x (lines_of t) sheet₂ (length sheet) m;
  }

  abbrev c : ℕ
  c = s.errors

  module _ (some : c ≢ 0) (sheet₁ : List ℕ) (z : sheet₁ ≡ zeros (length sheet)) where
    found : 0 < c
    found = omega (arith, some)

    -- row 5
    pub opens_too_many : n < c → Opens t w n sheet w₁ sheet₁ (record { answer = Err (LogTooShort c); found = None })
    opens_too_many many =
        let x : Result Answer Refusal = Err (LogTooShort c) in
        record {
          answers = λ log same. ap (read_in x (replicate (length log) unused)) z ∙ too_many t (length w) log sheet a c b.errors found (omega (arith, many, same)) x refl;
          reports = tt;
          touches = refl;
        }

    -- diagnostics that the log holds
    pub opens_diagnosed : c ≤ n → Opens t w n sheet w₁ sheet₁ (record { answer = Ok (Diagnostics c); found = Some s })
    unfolding records_of
    opens_diagnosed fits =
        let x : Result Answer Refusal = Ok (Diagnostics c) in
        let ds : List Diagnostic = records_of (diagnostics_of (lines_of t)) in
        let counted : c ≡ length ds = b.errors ∙ sym (length-map (diagnostics_of (lines_of t)) record_of) in
        let whole : take c (pending t w₁ s) ≡ ds = ap (take c) b.whole ∙ ap (λ (k : ℕ). take k ds) counted ∙ take-length ds in
        record {
          answers = λ log same.
              ap (λ (l : List Diagnostic). read_in x (sort l ++ replicate (length log - c) unused) sheet₁) whole
              ∙ ap (read_in x (sort ds ++ replicate (length log - c) unused)) z ∙ all-kept t (length w) log sheet a c b.errors found (omega (arith, fits, same)) x refl;
          reports = record { stands = b.stands; all = counted ∙ sym (ap length b.whole); fits = fits; room = b.room };
          touches = refl;
        }
