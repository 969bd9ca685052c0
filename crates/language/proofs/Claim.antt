-- The claim of demand 3: the calls leave the forms and the answers of their definitions, answers stand for the texts' machines, and the round trip does the rest.
use Prim.Native.Nat.{ℕ, ◌-◌, ◌≤◌}
use native.Mathlib.Omega.{arith}
use mathlib.Core.Bool.{Bool, true, false, false≢true}
use mathlib.Core.List.{List, [], ◌++◌}
use mathlib.Core.Logic.{◌↔◌}
use mathlib.Core.Path.{◌≡◌, refl, ap, ◌∙◌, sym, subst}
use borrow.Author.Tests.{ltb-false, le-ltb}
use lib.Dec.{ltb}
use lib.ListN.{length, drop}
use lib.Seq.{take-append_seam}
use Rattle.chars.specs.Utf8.{decode, valid_up_to}
use Rattle.chars.specs.Class.{first_outside}
use Rattle.std.specs.Prelude.{Option as Perhaps, Some, None, Option}
use Rattle.chars.proofs.Theorems.{valid_le}
use Rattle.lexer.specs.Tokens.{Span}
use Rattle.machine.specs.declared.Head.{Head}
use Rattle.language.specs.Lines.{Line, read_lines}
use Rattle.language.specs.Assembly.{diagnostics}
use Rattle.language.specs.Infer.{machine_of}
use Rattle.language.specs.Layout.{head_of, sheet_words}
use Rattle.language.specs.Outcome.{Refusal, text_too_long, work_too_short, invalid_utf8, outside_set, max_bytes, work_needed, refusal_of, admitted, machine, zeros, filled, ReadOutcome, words_needed, read_machine, read_with, read_outcome, written, WriteOutcome, form_of, write_form, write_with, write_outcome}
use Rattle.language.specs.Agreement.{Answer, content_of_answer}
use Rattle.language.specs.Claim.{Writable, form_left, answer_given, BothAgree}
use Rattle.language.proofs.AnswerBack.{answer_of_text}
use Rattle.language.proofs.RoundTrip.{content_of_text, Reads, round_trip, forms_agree, form_again}

-- ---- what is shown

-- what a call is lent: so many words of work; a log, a sheet and an output that hold anything
pub record Lent : Type 0 where
  pub work : ℕ
  pub log : List ℕ
  pub sheet : List ℕ
  pub output : List ℕ

-- a reading call with them
abbrev pub reading : List ℕ → Lent → ReadOutcome (List ℕ)
reading t b = read_outcome t b.work b.log b.sheet

-- a writing call with them
abbrev pub writing : List ℕ → Lent → WriteOutcome (List ℕ)
writing t b = write_outcome t b.work b.log b.sheet b.output

-- long enough for a text, its sheet and its plain form
pub record Enough (t : List ℕ) (b : Lent) : Type 0 where
  pub work_fits : work_needed (length t) ≤ b.work
  pub sheet_fits : words_needed (read_lines (decode t)) ≤ length b.sheet
  pub output_fits : length (form_of t) ≤ length b.output

-- the claim, for two texts and their buffers
pub record Claim (t u : List ℕ) (a b : Lent) : Type 0 where
  -- the forms are equal bytes exactly when the answers agree
  pub forms : (form_left (writing t a) ≡ form_left (writing u b)) ↔ BothAgree (answer_given t (reading t a)) (answer_given u (reading u b))
  -- the bytes that are written are the text's plain form
  pub form_written : form_left (writing t a) ≡ form_of t
  -- a form is a text of that kind again
  pub form_writable : Writable (form_left (writing t a))
  -- and with any buffers long enough it reads as a machine that agrees with the text's
  pub form_agrees : (c : Lent) → Enough (form_left (writing t a)) c
      → BothAgree (answer_given (form_left (writing t a)) (reading (form_left (writing t a)) c)) (answer_given t (reading t a))

-- ---- rows 1 to 4

-- what the four tests give
abbrev rows : Bool → Bool → Bool → ℕ → Perhaps ℕ → Option Refusal
rows long short invalid n o = elim long as (λ _. Option Refusal) [
  | true ↦ Some text_too_long
  | false ↦ elim short [ true ↦ Some work_too_short | false ↦ elim invalid [ true ↦ Some (invalid_utf8 n) | false ↦ elim o [ Some p ↦ Some (outside_set p) | None ↦ None ] ] ]
]

-- a text that passes them is short and UTF-8, and passes with any work that is long enough
record Passed (long invalid : Bool) (n : ℕ) (o : Perhaps ℕ) : Type 0 where
  not_long : long ≡ false
  not_invalid : invalid ≡ false
  passes : rows long false invalid n o ≡ None

passed : (long short invalid : Bool) (n : ℕ) (o : Perhaps ℕ) → elim (rows long short invalid n o) [ None ↦ true | Some r ↦ false ] ≡ true → Passed long invalid n o
passed true short invalid n o e = absurd (false≢true e)
passed false true invalid n o e = absurd (false≢true e)
passed false false true n o e = absurd (false≢true e)
passed false false false n (Some p) e = absurd (false≢true e)
passed false false false n None e = record { not_long = refl; not_invalid = refl; passes = refl }

module _ (t : List ℕ) (h : admitted t ≡ true) where
  facts : Passed (ltb max_bytes (length t)) (ltb (valid_up_to t) (length t)) (valid_up_to t) (first_outside t)
  unfolding admitted refusal_of
  facts = passed (ltb max_bytes (length t)) (ltb (work_needed (length t)) (work_needed (length t))) (ltb (valid_up_to t) (length t)) (valid_up_to t) (first_outside t) h

  -- it is not refused by rows 1 to 4
  pub not-refused : (work : ℕ) → work_needed (length t) ≤ work → refusal_of t work ≡ None
  unfolding refusal_of
  not-refused work k = ap (λ s. rows (ltb max_bytes (length t)) s (ltb (valid_up_to t) (length t)) (valid_up_to t) (first_outside t)) (le-ltb work (work_needed (length t)) k) ∙ facts.passes

  pub is_short : length t ≤ max_bytes
  is_short = ltb-false max_bytes (length t) facts.not_long

  pub is_valid : valid_up_to t ≡ length t
  is_valid = omega (arith, ltb-false (valid_up_to t) (length t) facts.not_invalid, valid_le t)

-- ---- calls

-- a reading call that is lent enough answers with the machine
abbrev read_of : List ℕ → ℕ → ℕ → ReadOutcome (List ℕ)
read_of t log sheet =
    let m = machine_of (read_lines (decode t)) in
    record { reply = machine (head_of m); log = zeros log; sheet = filled (sheet_words m) sheet }

machine_is : (ls : List (Line Span)) (log sheet : ℕ) → words_needed ls ≤ sheet → read_machine ls log sheet ≡ record { reply = machine (head_of (machine_of ls)); log = zeros log; sheet = filled (sheet_words (machine_of ls)) sheet }
unfolding read_machine
machine_is ls log sheet k = rw (le-ltb sheet (words_needed ls) k, read_machine) refl

pub read_is : (t : List ℕ) (work : ℕ) (log sheet : List ℕ) → refusal_of t work ≡ None → diagnostics (read_lines (decode t)) ≡ [] → words_needed (read_lines (decode t)) ≤ length sheet
    → read_outcome t work log sheet ≡ read_of t (length log) (length sheet)
unfolding read_outcome read_with
read_is t work log sheet e d k =
    rw (e, read_outcome) (ap (λ ds. read_with ds (read_lines (decode t)) (length log) (length sheet)) d ∙ machine_is (read_lines (decode t)) (length log) (length sheet) k)

-- a form that fits stands at the output's front
form_is : (form : List ℕ) (h : Head) (log sheet output : List ℕ) → length form ≤ length output → length form ≤ max_bytes
    → write_with (record { reply = machine h; log = log; sheet = sheet }) form output ≡ record { reply = written (length form); log = log; sheet = sheet; output = form ++ drop (length form) output }
unfolding write_with
form_is form h log sheet output k s = rw (le-ltb (length output) (length form) k, le-ltb max_bytes (length form) s, write_form) refl

-- a writing call that is lent enough leaves the form
pub write_is : (t : List ℕ) (work : ℕ) (log sheet output : List ℕ) (h : Head) (l s : List ℕ) → read_outcome t work log sheet ≡ record { reply = machine h; log = l; sheet = s }
    → length (form_of t) ≤ length output → length (form_of t) ≤ max_bytes → write_outcome t work log sheet output ≡ record { reply = written (length (form_of t)); log = l; sheet = s; output = form_of t ++ drop (length (form_of t)) output }
write_is t work log sheet output h l s e k m = outcome ∙ (ap (λ r. write_with r (form_of t) output) e ∙ form_is (form_of t) h l s output k m)
  where
    outcome : write_outcome t work log sheet output ≡ write_with (read_outcome t work log sheet) (form_of t) output
    outcome = unfold write_outcome in refl

module _ (t : List ℕ) (good : Writable t) (b : Lent) (enough : Enough t b) where
  read_answers : reading t b ≡ read_of t (length b.log) (length b.sheet)
  read_answers = read_is t b.work b.log b.sheet (not-refused t good.is_admitted b.work enough.work_fits) good.no_diagnostic enough.sheet_fits

  pub form_left_lem : form_left (writing t b) ≡ form_of t
  form_left_lem = ap form_left (write_is t b.work b.log b.sheet b.output _ _ _ read_answers enough.output_fits good.form_short) ∙ take-append_seam (form_of t) (drop (length (form_of t)) b.output)

  -- the answer that it gives
  answer : Answer
  answer =
      let m = machine_of (read_lines (decode t)) in
      record { head = head_of m; sheet = filled (sheet_words m) (length b.sheet); text = t }

  answer_given_lem : answer_given t (reading t b) ≡ Some answer
  unfolding answer
  answer_given_lem = ap (answer_given t) read_answers

  answer_content : content_of_answer answer ≡ content_of_text t
  unfolding answer
  answer_content = answer_of_text t (zeros (length b.sheet - length (sheet_words (machine_of (read_lines (decode t)))))) (is_valid t good.is_admitted) (omega (arith, is_short t good.is_admitted))

-- ---- the claim

-- the form of a text that can be written can be written
form-writes : (t : List ℕ) → Writable t → Writable (form_of t)
form-writes t g =
    let r = (round_trip t g.is_admitted g.form_short).0 in
    record { is_admitted = r.is_admitted; no_diagnostic = r.no_diagnostic; form_short = subst (λ f. length f ≤ max_bytes) (sym (form_again t g.is_admitted g.form_short)) g.form_short }

-- answers agree when their texts stand for equal machines, and only then
both_agree : (t u : List ℕ) (good : Writable t) (fine : Writable u) (a b : Lent) (e : Enough t a) (f : Enough u b)
    → (content_of_text t ≡ content_of_text u) ↔ BothAgree (answer_given t (reading t a)) (answer_given u (reading u b))
both_agree t u good fine a b e f = (
  λ p. rw (answer_given_lem t good a e, answer_given_lem u fine b f) (answer_content t good a e ∙ (p ∙ sym (answer_content u fine b f))),
  λ p. let q : content_of_answer (answer t good a e) ≡ content_of_answer (answer u fine b f) = rw (answer_given_lem t good a e, answer_given_lem u fine b f) at p in
      sym (answer_content t good a e) ∙ (q ∙ answer_content u fine b f),
)

-- For every two texts that are admitted, read without a diagnostic and have forms of at most 4,194,304 bytes, and for all buffers long enough, whatever they hold:
-- what `write` leaves is equal exactly when the answers of `read` agree; and it is admitted, reads without a diagnostic, and agrees.
pub claim : (t u : List ℕ) → Writable t → Writable u → (a b : Lent) → Enough t a → Enough u b → Claim t u a b
claim t u good fine a b e f =
    let left : form_left (writing t a) ≡ form_of t = form_left_lem t good a e in
    let right : form_left (writing u b) ≡ form_of u = form_left_lem u fine b f in
    let same : (form_of t ≡ form_of u) ↔ (content_of_text t ≡ content_of_text u) = forms_agree t u (reads t good) (reads u fine) good.form_short fine.form_short in
    let agree = both_agree t u good fine a b e f in
    record {
      forms = (λ p. agree.0 (same.0 (sym left ∙ (p ∙ right))), λ p. left ∙ (same.1 (agree.1 p) ∙ sym right));
      form_written = left;
      form_writable = subst Writable (sym left) (form-writes t good);
      form_agrees = subst (λ x. (c : Lent) → Enough x c → BothAgree (answer_given x (reading x c)) (answer_given t (reading t a))) (sym left)
          (λ c g. (both_agree (form_of t) t (form-writes t good) good c a g e).0 (round_trip t good.is_admitted good.form_short).1);
    }
  where
    reads : (t : List ℕ) → Writable t → Reads t
    reads t g = record { is_admitted = g.is_admitted; no_diagnostic = g.no_diagnostic }
