-- Demand 3 on the calls: their contracts tell the outcomes, of which the language's claim holds.
use mathlib.Core.List.{List}
use mathlib.Core.Path.{◌≡◌, sym, ap, subst, ◌∙◌}
use Prim.Native.Nat.{ℕ}
use native.Mathlib.Omega.{arith}
use Rattle.language.specs.Outcome.{read_outcome, form_of, write_outcome}
use Rattle.language.specs.Claim as L
use Rattle.language.proofs.Claim as P
use Rattle.writer.specs.Claim.{ReadCall, WriteCall, answered, form, Demand3}

-- calls whose log is words
abbrev Read : List ℕ → Type 0
Read = ReadCall read_outcome

abbrev Write : List ℕ → Type 0
Write = WriteCall write_outcome

-- what a call of `read` was lent, with room for the form besides
lent : (t : List ℕ) → Read t → P.Lent
lent t r = record { work = r.lent.work; log = r.lent.log; sheet = r.lent.sheet; output = form_of t }

enough : (t : List ℕ) (r : Read t) → P.Enough t (lent t r)
unfolding lent
enough t r = record { work_fits = r.lent.work_fits; sheet_fits = r.lent.sheet_fits; output_fits = omega arith }

-- what a call of `write` was lent
abbrev to_write : {t : List ℕ} → Write t → P.Lent
to_write w = record { work = w.lent.work; log = w.lent.log; sheet = w.lent.sheet; output = w.output_lent }

-- what it leaves is the text's form
form_is : (t : List ℕ) → L.Writable t → (w : Write t) → form w ≡ form_of t
form_is t good w =
    ap L.form_left w.contract ∙ P.form_left_lem t good (to_write w) (record { work_fits = w.lent.work_fits; sheet_fits = w.lent.sheet_fits; output_fits = w.output_fits })

-- the form that a call leaves is what the definition leaves, whatever was lent
same-form : (t : List ℕ) → L.Writable t → (r : Read t) (w : Write t) → L.form_left (P.writing t (lent t r)) ≡ form w
same-form t good r w = P.form_left_lem t good (lent t r) (enough t r) ∙ sym (form_is t good w)

-- the answer of a call of `read` is the definition's
same_answer : (t : List ℕ) (r : Read t) → L.answer_given t (P.reading t (lent t r)) ≡ answered r
unfolding lent
same_answer t r = ap (L.answer_given t) (sym r.contract)

pub claim : Demand3 read_outcome write_outcome
claim t u good fine r s w x =
    let known : P.Claim t u (lent t r) (lent u s) = P.claim t u good fine (lent t r) (lent u s) (enough t r) (enough u s) in
    let p : L.form_left (P.writing t (lent t r)) ≡ form w = same-form t good r w in
    let q : L.form_left (P.writing u (lent u s)) ≡ form x = same-form u fine s x in
    record {
      forms = (
        λ e. subst (λ o. L.BothAgree o (answered s)) (same_answer t r) (subst (λ o. L.BothAgree (L.answer_given t (P.reading t (lent t r))) o) (same_answer u s) (known.forms.0 (p ∙ (e ∙ sym q)))),
        λ b. sym p ∙ (known.forms.1 (subst (λ o. L.BothAgree o (L.answer_given u (P.reading u (lent u s)))) (sym (same_answer t r)) (subst (λ o. L.BothAgree (answered r) o) (sym (same_answer u s)) b)) ∙ q),
      );
      form_written = form_is t good w;
      form_writable = subst L.Writable p known.form_writable;
      form_agrees = λ again.
          let agrees : L.BothAgree (L.answer_given (form w) (P.reading (form w) (lent (form w) again))) (L.answer_given t (P.reading t (lent t r))) =
          subst (λ f. (c : P.Lent) → P.Enough f c → L.BothAgree (L.answer_given f (P.reading f c)) (L.answer_given t (P.reading t (lent t r)))) p known.form_agrees (lent (form w) again) (enough (form w) again) in
          subst (λ o. L.BothAgree o (answered r)) (same_answer (form w) again) (subst (λ o. L.BothAgree (L.answer_given (form w) (P.reading (form w) (lent (form w) again))) o) (same_answer t r) agrees);
    }
