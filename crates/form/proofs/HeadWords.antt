-- The lines before the rules whose pieces the search does not put together.
use mathlib.Core.Path.{◌≡◌, refl, sym, ap, ◌∙◌}
use Prim.Native.Nat.{ℕ, zero, suc, ◌+◌, ◌/◌, ◌%◌, ◌<◌}
use native.Mathlib.Omega.{arith}
use mathlib.Core.Logic.{⊎_elim}
use mathlib.Core.Bool.{Bool, true, false}
use mathlib.Core.List.{List, [], ◌∷◌, ◌++◌}
use borrow.Author.Tests.{lt-ltb, le-ltb}
use Rattle.chars.specs.Utf8.{encode}
use Rattle.chars.proofs.Tests.{lt-or-ge}
use Rattle.machine.specs.declared.Head.{Head}
use Rattle.language.specs.Plain.{say, symbol, string, decimal_from, decimal, kind_name, decoder}
use Rattle.language.specs.Agreement.{string_at}
use Rattle.machine.specs.declared.Kind.{Kind}
use Rattle.machine.specs.declared.Kind.TheVariants.{Acceptor, Transducer, Enumerator, Beaver}
use Rattle.emit.specs.declared.Output.{Output}
use Rattle.emit.specs.Decimal as E
use Rattle.emit.proofs.Digits.{digits-rest, digits-any}
use Rattle.emit.specs.Appends.{Appends}
use Rattle.form_strings.specs.Writes.{Writes}
use Rattle.form.specs.Sections.{head_lines, blank_line}
use Rattle.emit.proofs.Chain.{none, ◌▹◌}
use Rattle.form_strings.proofs.Chain.{ascii, known, spoken}

-- ---- the number of tapes

-- digits are their own encoding; the form's definition and the output's are the same digits
digits-encode : (k n : ℕ) (rest : List ℕ) → encode (decimal_from k n rest) ≡ E.digits_from k n (encode rest)
unfolding decimal_from E.digits_from
digits-encode zero n rest = ascii (0x30 + n % 10) rest (omega arith)
digits-encode (suc k) n rest =
    ⊎_elim (λ (l : n < 10). rw (lt-ltb n 10 l, decimal_from, E.digits_from) (ascii (0x30 + n) rest (omega arith)))
    (λ g. rw (le-ltb n 10 g, decimal_from, E.digits_from) (digits-encode k (n / 10) ((0x30 + n % 10) ∷ rest) ∙ ap (E.digits_from k (n / 10)) (ascii (0x30 + n % 10) rest (omega arith))))
    (lt-or-ge n 10)

pub number-written : (n m : ℕ) (o r : Output) → n < 256 → m ≡ n → Appends (E.decimal m) o r → Writes (decimal n) o r
unfolding decimal E.decimal
number-written n m o r b e a =
    known (E.decimal n) (λ rest. digits-encode 2 n rest ∙ digits-rest 2 n (encode rest) ∙ ap (λ l. l ++ encode rest) (sym (digits-any 17 2 n [] (omega arith)))) (rw e at a)

-- ---- kind

module _ (k : Kind) (o r : Output) where
  pub kind_acceptor : k ≡ Acceptor → Appends (say "acceptor" []) o r → Writes (say (kind_name k)) o r
  unfolding encode
  kind_acceptor e a = rw e (spoken "acceptor" (λ rest. refl) a)

  pub kind_transducer : k ≡ Transducer → Appends (say "transducer" []) o r → Writes (say (kind_name k)) o r
  unfolding encode
  kind_transducer e a = rw e (spoken "transducer" (λ rest. refl) a)

  pub kind_enumerator : k ≡ Enumerator → Appends (say "enumerator" []) o r → Writes (say (kind_name k)) o r
  unfolding encode
  kind_enumerator e a = rw e (spoken "enumerator" (λ rest. refl) a)

  pub kind_beaver : k ≡ Beaver → Appends (say "beaver" []) o r → Writes (say (kind_name k)) o r
  unfolding encode
  kind_beaver e a = rw e (spoken "beaver" (λ rest. refl) a)

-- ---- the blank, if it is declared

module _ (d : Bool) (o : Output) where
  pub blank_none : (c : ℕ) → d ≡ false → Writes (blank_line d c) o o
  unfolding blank_line
  blank_none c e = rw e none

  pub blank_written : (c : ℕ) (a b r : Output) → d ≡ true → Appends (say "blank = " []) o a → Writes (symbol c) a b → Appends (say "\n" []) b r → Writes (blank_line d c) o r
  unfolding blank_line encode
  blank_written c a b r e w₁ w₂ w₃ = rw e (spoken "blank = " (λ rest. refl) w₁ ▹ w₂ ▹ spoken "\n" (λ rest. refl) w₃)

-- ---- machine, kind, input, output and tapes

pub head-written : (text : List ℕ) (h : Head) (a₀ a₁ a₂ a₃ a₄ a₅ a₆ a₇ a₈ a₉ b₀ b₁ : Output) → Appends (say "machine " []) a₀ a₁ → Writes (string (string_at text h.name)) a₁ a₂
    → Appends (say "\nkind " []) a₂ a₃ → Writes (say (kind_name h.kind)) a₃ a₄ → Appends (say "\ninput " []) a₄ a₅ → Writes (string (string_at text h.input)) a₅ a₆
    → Appends (say "\noutput " []) a₆ a₇ → Writes (decoder h.output) a₇ a₈ → Appends (say "\ntapes = " []) a₈ a₉ → Writes (decimal h.tapes) a₉ b₀ → Appends (say "\n" []) b₀ b₁
    → Writes (head_lines text h) a₀ b₁
unfolding head_lines encode
head-written text h a₀ a₁ a₂ a₃ a₄ a₅ a₆ a₇ a₈ a₉ b₀ b₁ w₁ w₂ w₃ w₄ w₅ w₆ w₇ w₈ w₉ x₀ x₁ =
    spoken "machine " (λ rest. refl) w₁ ▹ w₂ ▹ spoken "\nkind " (λ rest. refl) w₃ ▹ w₄ ▹ spoken "\ninput " (λ rest. refl) w₅ ▹ w₆
    ▹ spoken "\noutput " (λ rest. refl) w₇ ▹ w₈ ▹ spoken "\ntapes = " (λ rest. refl) w₉ ▹ x₀ ▹ spoken "\n" (λ rest. refl) x₁
