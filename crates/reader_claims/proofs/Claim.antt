-- Request 9 on the calls: an answer stands for the machine of its text, of which the language's theorems say all of it.
use mathlib.Core.List.{List}
use mathlib.Core.Path.{◌≡◌, ap, sym, ◌∙◌}
use Prim.Native.Nat.{ℕ, ◌-◌}
use native.Mathlib.Omega.{arith}
use lib.ListN.{length}
use Rattle.std.specs.Prelude.{Result, Ok, Err}
use Rattle.chars.specs.Utf8.{decode}
use Rattle.machine.specs.declared.Head.{Head}
use Rattle.language.specs.Lines.{read_lines}
use Rattle.language.specs.Content.{content_of}
use Rattle.language.specs.Infer.{machine_of}
use Rattle.language.specs.Inference.{infer}
use Rattle.language.specs.Layout.{head_of, sheet_words}
use Rattle.language.specs.Outcome.{zeros, read_outcome}
use Rattle.language.specs.Agreement.{content_of_answer}
use Rattle.language.specs.Claim.{answer_given}
use Rattle.language.proofs.AnswerBack.{answer_of_text}
use Rattle.language.proofs.Claim.{is_short, is_valid}
use Rattle.language.proofs.InferOnce.{read-infers, read-inferred}
use Rattle.language.proofs.InferTwice.{infer-infer}
use Rattle.reader_answer.specs.declared.Answer as A
use Rattle.reader_answer.specs.declared.Answer.TheVariants.{Machine, Diagnostics}
use Rattle.reader_answer.specs.declared.Refusal.{Refusal}
use Rattle.reader_answer.specs.Answer.{read_in}
use Rattle.form_theorems.specs.Read.{ReadAs}
use Rattle.form_theorems.proofs.Readings.{machine-read}
use Rattle.reader_claims.specs.Claim.{Infers, Inferred, InferredOnce}

-- a machine that was read is that of the text
content_is : (t : List ℕ) (h : Head) (s : List ℕ) → ReadAs t h s → content_of_answer (record { head = h; sheet = s; text = t }) ≡ content_of (machine_of (read_lines (decode t)))
content_is t h s r =
    let m = machine_of (read_lines (decode t)) in
    ap (λ x. content_of_answer (record { head = x; sheet = s; text = t })) r.head_is
    ∙ (ap (λ x. content_of_answer (record { head = head_of m; sheet = x; text = t })) r.sheet_is
    ∙ answer_of_text t (zeros (length s - length (sheet_words m))) (is_valid t r.is_admitted) (omega (arith, is_short t r.is_admitted)))

-- what a call answered and left, on a log of words
module _ (t : List ℕ) (work : ℕ) (log sheet l s : List ℕ) where
  infers : (a : Result A.Answer Refusal) → read_in a l s ≡ read_outcome t work log sheet → Infers t (answer_given t (read_in a l s))
  infers (Ok (Machine h)) e =
      let r : ReadAs t h s = machine-read t work log sheet h l s e in
      content_is t h s r ∙ read-infers t r.is_admitted
  infers (Ok (Diagnostics n)) e = tt
  infers (Err r) e = tt

  inferred : (a : Result A.Answer Refusal) → read_in a l s ≡ read_outcome t work log sheet → Inferred (answer_given t (read_in a l s))
  inferred (Ok (Machine h)) e =
      let r : ReadAs t h s = machine-read t work log sheet h l s e in
      ap infer (content_is t h s r) ∙ (read-inferred t r.is_admitted ∙ sym (content_is t h s r))
  inferred (Ok (Diagnostics n)) e = tt
  inferred (Err r) e = tt

pub claim : InferredOnce read_outcome
claim = record {
  twice = infer-infer;
  text_infers = read-infers;
  text_inferred = read-inferred;
  call_infers = λ t r. infers t r.work r.log_lent r.sheet_lent r.log r.sheet r.answer r.contract;
  call_inferred = λ t r. inferred t r.work r.log_lent r.sheet_lent r.log r.sheet r.answer r.contract;
}
