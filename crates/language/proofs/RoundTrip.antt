-- Demand 3 over the definitions: reading a plain form gives the machine that it was written for, so plain forms tell machines apart.
use Prim.Native.Nat.{ℕ, ◌+◌, ◌≤◌, ◌<◌}
use mathlib.Core.Bool.{Bool, true, false, ◌&&◌, false≢true}
use mathlib.Core.List.{List, [], ◌∷◌, map}
use mathlib.Core.Logic.{◌↔◌}
use mathlib.Core.Path.{◌≡◌, refl, ap, ◌∙◌, sym, subst}
use native.Mathlib.Omega.{arith}
use borrow.Author.Tests.{leb-true, le-ltb, lt-ltb}
use lib.Dec.{ltb, leb}
use lib.ListN.{length}
use Rattle.chars.specs.Ranges.{within}
use Rattle.chars.specs.Utf8.{size, decode, encode, valid_up_to}
use Rattle.chars.specs.Decoded.{scalars}
use Rattle.chars.specs.Class.{outside_from, first_outside}
use Rattle.std.specs.Prelude.{Option as Perhaps, Some, None, Option}
use Rattle.chars.proofs.Theorems.{decode-encode, encode_valid}
use Rattle.lexer.specs.Tokens.{Span}
use Rattle.language.specs.Content.{Content, content_of}
use Rattle.language.specs.Lines.{lines, read_lines}
use Rattle.language.specs.Assembly.{Diagnostic, diagnostics_of, sort, diagnostics}
use Rattle.language.specs.Infer.{machine_of}
use Rattle.language.specs.Outcome.{Refusal, text_too_long, work_too_short, invalid_utf8, outside_set, max_bytes, work_needed, admitted, form_of}
use Rattle.language.specs.Plain.{plain}
use Rattle.language.proofs.Every.{by_test, and_right}
use Rattle.language.proofs.TokenKinds.{kinds}
use Rattle.language.proofs.PlainParse.{bare, nowhere, plain_lines, plain-reads}
use Rattle.language.proofs.Facts.{Facts, content_from, facts_of, content_facts}
use Rattle.language.proofs.InferAgain.{infer_again}
use Rattle.language.proofs.PlainAssembly.{facts_plain, quiet_plain}
use Rattle.language.proofs.ParsePlaces.{bare_line, read-bare}
use Rattle.language.proofs.AssemblyPlaces.{facts_natural, diagnostics_natural}
use Rattle.language.proofs.LexSound.{fine, Fine, AllFine}
use Rattle.language.proofs.ParseSound.{lines_good}
use Rattle.language.proofs.AssemblySound.{GoodFacts, facts_good}
use Rattle.language.proofs.ContentSound.{GoodContent, content_good, content_written, content_parsable, content_assembles, plain_fine}

-- ---- characters of the set

fine_small : (c : ℕ) → Fine c → c < 0xD800
unfolding fine
fine_small c h = by_test (leb 0x0000 c && leb c 0x02C1)
    (λ e. let k : c ≤ 0x02C1 = leb-true c 0x02C1 (and_right (leb 0x0000 c) (leb c 0x02C1) e) in omega arith)
    (λ e. by_test (leb 0x0370 c && leb c 0x0481)
    (λ f. let k : c ≤ 0x0481 = leb-true c 0x0481 (and_right (leb 0x0370 c) (leb c 0x0481) f) in omega arith)
    (λ f. by_test (leb 0x2190 c && leb c 0x243F)
    (λ g. let k : c ≤ 0x243F = leb-true c 0x243F (and_right (leb 0x2190 c) (leb c 0x243F) g) in omega arith)
    (λ g. absurd (false≢true (sym (rw (e, within) (rw (f, within) (rw (g, within)))) ∙ h)))))

pub fine_scalars : (cs : List ℕ) → AllFine cs → scalars cs ≡ true
unfolding scalars
fine_scalars [] h = refl
fine_scalars (c ∷ cs) h = rw (lt-ltb c 0xD800 (fine_small c h.0)) (fine_scalars cs h.1)

outside_fine : (o : ℕ) (cs : List ℕ) → AllFine cs → outside_from o cs ≡ None
unfolding outside_from fine
outside_fine o [] h = refl
outside_fine o (c ∷ cs) h = rw (h.0, outside_from) (outside_fine (o + size c) cs h.1)

some-place : (o : ℕ) → Some o ≡ None → ⊥
some-place o e = let z : ◌≡◌ {A = ℕ} 0 1 = cc in omega arith

nowhere_fine : (o : ℕ) (cs : List ℕ) → outside_from o cs ≡ None → AllFine cs
unfolding outside_from fine
nowhere_fine o [] e = tt
nowhere_fine o (c ∷ cs) e = by_test (fine c) (λ h. (h, nowhere_fine (o + size c) cs (sym (rw (h, outside_from)) ∙ e))) (λ h. absurd (some-place o (sym (rw (h, outside_from)) ∙ e)))

-- ---- admitted texts

-- the four tests of rows 1 to 4, by what they gave
abbrev gate : Bool → Bool → Bool → ℕ → Perhaps ℕ → Bool
gate long short invalid n o = elim (
    elim long as (λ _. Option Refusal) [
      | true ↦ Some text_too_long
      | false ↦ elim short [ true ↦ Some work_too_short | false ↦ elim invalid [ true ↦ Some (invalid_utf8 n) | false ↦ elim o [ Some p ↦ Some (outside_set p) | None ↦ None ] ] ]
    ]
    ) [ None ↦ true | Some r ↦ false ]

gate_open : (long short invalid : Bool) (n : ℕ) (o : Perhaps ℕ) → gate long short invalid n o ≡ true → o ≡ None
gate_open true short invalid n o e = absurd (false≢true e)
gate_open false true invalid n o e = absurd (false≢true e)
gate_open false false true n o e = absurd (false≢true e)
gate_open false false false n (Some p) e = absurd (false≢true e)
gate_open false false false n None e = refl

-- the characters of an admitted text are of the set
pub admitted_fine : (t : List ℕ) → admitted t ≡ true → AllFine (decode t)
unfolding admitted first_outside
admitted_fine t h = nowhere_fine 0 (decode t) (gate_open (ltb max_bytes (length t)) (ltb (work_needed (length t)) (work_needed (length t))) (ltb (valid_up_to t) (length t)) (valid_up_to t) (first_outside t) h)

-- and a text of such characters that is short enough is admitted
pub fine_admitted : (cs : List ℕ) → AllFine cs → length (encode cs) ≤ max_bytes → admitted (encode cs) ≡ true
unfolding admitted first_outside
fine_admitted cs h k =
    let t = encode cs in
    let valid : valid_up_to t ≡ length t = encode_valid cs (fine_scalars cs h) in
    let outside : first_outside t ≡ None = ap (outside_from 0) (decode-encode cs (fine_scalars cs h)) ∙ outside_fine 0 cs h in
    λ i. gate (le-ltb max_bytes (length t) k i) (le-ltb (work_needed (length t)) (work_needed (length t)) (omega arith) i) ((ap (λ n. ltb n (length t)) valid ∙ le-ltb (length t) (length t) (omega arith)) i) (valid_up_to t) (outside i)

-- ---- diagnostics

nil-map : {A B : Type 0} (g : A → B) (l : List A) → map g l ≡ [] → l ≡ []
nil-map g [] e = refl
nil-map g (a ∷ l) e = let z : ◌≡◌ {A = ℕ} 0 1 = cc in absurd (omega arith)

sort-nil : (l : List (Diagnostic Span)) → l ≡ [] → sort l ≡ []
unfolding sort
sort-nil l e = ap sort e

-- ---- the theorem

-- what a text stands for
abbrev pub content_of_text : List ℕ → Content
content_of_text t = content_of (machine_of (read_lines (decode t)))

-- the lines of a text of admitted characters say what is well formed
pub read_good : (cs : List ℕ) → AllFine cs → GoodFacts (facts_of (read_lines cs))
read_good cs h =
    subst GoodFacts (facts_natural (λ p. tt) (read_lines cs))
    (subst (λ ls. GoodFacts (facts_of ls)) (sym (read-bare cs)) (facts_good (lines nowhere (map bare (kinds cs))) (lines_good cs h)))

-- reading the plain form of a content that is well formed
form-lines : (m : Content) → GoodContent m → map bare_line (read_lines (plain m)) ≡ plain_lines m
form-lines m g = read-bare (plain m) ∙ plain-reads m (content_written m g) (content_parsable m g)

form_quiet : (m : Content) → GoodContent m → diagnostics (read_lines (plain m)) ≡ []
unfolding diagnostics
form_quiet m g = sort-nil (diagnostics_of (read_lines (plain m))) (nil-map _ (diagnostics_of (read_lines (plain m)))
    (sym (diagnostics_natural (λ p. tt) (read_lines (plain m))) ∙ (ap diagnostics_of (form-lines m g) ∙ quiet_plain m (content_assembles m g))))

form_content : (f : Facts) → GoodContent (content_from f) → content_of (machine_of (read_lines (plain (content_from f)))) ≡ content_from f
form_content f g =
    let m = content_from f in
    content_facts (read_lines (plain m))
    ∙ (ap content_from (sym (facts_natural (λ p. tt) (read_lines (plain m))) ∙ (ap facts_of (form-lines m g) ∙ facts_plain m g.c_count)) ∙ infer_again f)

-- a text that is admitted and reads without a diagnostic
pub record Reads (t : List ℕ) : Type 0 where
  pub is_admitted : admitted t ≡ true
  pub no_diagnostic : diagnostics (read_lines (decode t)) ≡ []

form_is : (t : List ℕ) → form_of t ≡ encode (plain (content_of_text t))
unfolding form_of
form_is t = refl

of_content : (t : List ℕ) (f : Facts) → content_of_text t ≡ content_from f → GoodContent (content_from f) → length (encode (plain (content_from f))) ≤ max_bytes
    → Reads (encode (plain (content_from f))) × (content_of_text (encode (plain (content_from f))) ≡ content_of_text t)
of_content t f e g k =
    let m = content_from f in
    let fines = plain_fine m g in
    let back : decode (encode (plain m)) ≡ plain m = decode-encode (plain m) (fine_scalars (plain m) fines) in (
      record { is_admitted = fine_admitted (plain m) fines k; no_diagnostic = ap (λ cs. diagnostics (read_lines cs)) back ∙ form_quiet m g },
      ap (λ cs. content_of (machine_of (read_lines cs))) back ∙ (form_content f g ∙ sym e),
    )

-- The plain form of an admitted text, if it is short enough, is admitted, reads without a diagnostic, and stands for the same machine.
pub round_trip : (t : List ℕ) → admitted t ≡ true → length (form_of t) ≤ max_bytes → Reads (form_of t) × (content_of_text (form_of t) ≡ content_of_text t)
round_trip t h k =
    let f = facts_of (read_lines (decode t)) in
    let e : content_of_text t ≡ content_from f = content_facts (read_lines (decode t)) in
    let form : form_of t ≡ encode (plain (content_from f)) = form_is t ∙ ap (λ m. encode (plain m)) e in
    subst (λ b. Reads b × (content_of_text b ≡ content_of_text t)) (sym form)
    (of_content t f e (content_good f (read_good (decode t) (admitted_fine t h))) (subst (λ b. length b ≤ max_bytes) form k))

-- For every two texts that read without a diagnostic and whose forms are short enough: the forms are equal bytes exactly when the texts stand for equal machines.
pub forms_agree : (t u : List ℕ) → Reads t → Reads u → length (form_of t) ≤ max_bytes → length (form_of u) ≤ max_bytes → (form_of t ≡ form_of u) ↔ (content_of_text t ≡ content_of_text u)
forms_agree t u h k a b = (
  λ e. sym (round_trip t h.is_admitted a).1 ∙ (ap content_of_text e ∙ (round_trip u k.is_admitted b).1),
  λ e. form_is t ∙ (ap (λ m. encode (plain m)) e ∙ sym (form_is u)),
)

-- A plain form is its own plain form.
pub form_again : (t : List ℕ) → admitted t ≡ true → length (form_of t) ≤ max_bytes → form_of (form_of t) ≡ form_of t
form_again t h k = form_is (form_of t) ∙ (ap (λ m. encode (plain m)) (round_trip t h k).1 ∙ sym (form_is t))
