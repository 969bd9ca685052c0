-- The form at the output's front: counted on no row at all, it is written only where it fits, and then stands there whole.
use Prim.Native.Nat.{ℕ, ◌≤◌, ◌<◌, min}
use native.Mathlib.Omega.{arith}
use mathlib.Core.List.{List, [], ◌++◌, append-nil}
use mathlib.Core.Logic.{⊎_elim}
use mathlib.Core.Path.{◌≡◌, ap, ap₂, ◌∙◌}
use borrow.Author.Tests.{lt-ltb, le-ltb}
use lib.ListN.{length, take, drop, drop_of_length-le}
use lib.Seq.{length-take-le}
use Rattle.chars.specs.Utf8.{encode}
use Rattle.chars.proofs.Tests.{lt-or-ge}
use Rattle.language.specs.Plain.{plain}
use Rattle.language.specs.Agreement.{content_of_answer}
use Rattle.language.specs.Outcome.{ReadOutcome, form_of, write_form}
use Rattle.machine.specs.declared.Head.{Head}
use Rattle.emit.specs.Output.{Output, output, counted, appended}
use Rattle.emit.proofs.Appends.{appended-front, appended_empty}
use Rattle.form.specs.Answers.{answer}
use Rattle.form_theorems.specs.Read.{ReadAs}
use Rattle.form_theorems.proofs.Answers.{read-form}
use Rattle.std.specs.Prelude.{Ok, Err}
use Rattle.writer_answer.specs.declared.WriteAnswer.TheVariants.{Written}
use Rattle.writer_answer.specs.declared.WriteRefusal.TheVariants.{OutputTooShort}
use Rattle.writer_answer.specs.Answer.{write_in}

-- a text that was read, and its form
module _ (t : List ℕ) (head : Head) (sheet : List ℕ) (r : ReadAs t head sheet) (fits : length (form_of t) < 18446744073709551615) where
  -- the form as it is written from the answer
  abbrev bytes : List ℕ
  bytes = encode (plain (content_of_answer (answer head sheet t)))

  same : bytes ≡ form_of t
  same = read-form t head sheet r

  -- counted on no row
  module _ (part : List ℕ) (n : ℕ) (e : output part n ≡ appended (output [] 0) bytes) where
    told : output part n ≡ output [] (counted 0 (length (form_of t)))
    told = e ∙ (appended_empty 0 bytes ∙ ap (λ b. output [] (counted 0 (length b))) same)

    no_row : part ≡ []
    no_row = ap (λ (o : Output). o.row) told

    count : n ≡ length (form_of t)
    count = ap (λ (o : Output). o.at) told ∙ omega (arith, fits)

    module _ (out : List ℕ) where
      untouched : part ++ out ≡ out
      untouched = ap (λ l. l ++ out) no_row

      -- the output and 4,194,304 bytes, whichever is less
      module _ (room : ℕ) (least : room ≡ min (length (part ++ out)) 4194304) where
        -- row 7
        pub too_short : room < n → (x : ReadOutcome (List ℕ)) → write_in (Err (OutputTooShort n)) x.log x.sheet (part ++ out) ≡ write_form (form_of t) x out
        unfolding write_form
        too_short h x = ⊎_elim
            (λ (k : length out < length (form_of t)). rw (untouched, count, write_form, lt-ltb (length out) (length (form_of t)) k))
            (λ (k : length (form_of t) ≤ length out).
            let l : 4194304 < length (form_of t) = omega (arith, ap length untouched, count, least, h) in
            rw (untouched, count, write_form, le-ltb (length out) (length (form_of t)) k, lt-ltb 4194304 (length (form_of t)) l))
            (lt-or-ge (length out) (length (form_of t)))

        -- the form stands at the front, and the bytes behind it are as before
        pub form_stands : n ≤ room → (front : List ℕ) (m : ℕ) → output front m ≡ appended (output (take n (part ++ out)) 0) bytes → length out < 18446744073709551616
            → (x : ReadOutcome (List ℕ)) → write_in (Ok (Written m)) x.log x.sheet (front ++ drop n (part ++ out)) ≡ write_form (form_of t) x out
        unfolding write_form
        form_stands h front m f short x =
            let k : length (form_of t) ≤ length out = omega (arith, ap length untouched, count, least, h) in
            let l : length (form_of t) ≤ 4194304 = omega (arith, count, least, h) in
            let row : take n (part ++ out) ≡ take (length (form_of t)) out = ap₂ take count untouched in
            let size : length (take (length (form_of t)) out) ≡ length (form_of t) = length-take-le (length (form_of t)) out k in
            let last : length (take (length (form_of t)) out) ≤ length (form_of t) = omega (arith, size) in
            let whole : drop (length (form_of t)) (take (length (form_of t)) out) ≡ [] = drop_of_length-le (take (length (form_of t)) out) last in
            let stored : output front m ≡ output (form_of t ++ drop (length (form_of t)) (take (length (form_of t)) out)) (length (form_of t)) =
            f ∙ (ap₂ (λ r b. appended (output r 0) b) row same ∙ appended-front (take (length (form_of t)) out) (form_of t) (omega (arith, size, short, k)) (omega (arith, size))) in
            let front_is : front ≡ form_of t = ap (λ (o : Output). o.row) stored ∙ (ap (λ r. form_of t ++ r) whole ∙ append-nil (form_of t)) in
            let count-is : m ≡ length (form_of t) = ap (λ (o : Output). o.at) stored in
            rw (untouched, front_is, count-is, count, write_form, le-ltb (length out) (length (form_of t)) k, le-ltb 4194304 (length (form_of t)) l)
