-- A reading call that answers with a machine read an admitted text as its machine: every other way through the definition ends in
-- another reply.
use Prim.Native.Nat.{ℕ, ◌-◌, ◌/◌, ◌≤◌}
use native.Mathlib.Omega.{arith}
use mathlib.Core.Bool.{Bool, true, false, false≢true}
use mathlib.Core.List.{List, [], ◌∷◌}
use mathlib.Core.Path.{◌≡◌, refl, sym, ap, subst, ◌∙◌}
use borrow.Author.Tests.{ltb-false, le-ltb}
use lib.Dec.{ltb}
use lib.ListN.{length, length-append, length-replicate}
use Rattle.chars.specs.Utf8.{decode, valid_up_to}
use Rattle.chars.specs.Class.{first_outside}
use Rattle.std.specs.Prelude.{Some, None, Option}
use Rattle.lexer.specs.Tokens.{Span}
use Rattle.machine.specs.declared.Head.{Head}
use Rattle.language.specs.Lines.{Line, read_lines}
use Rattle.language.specs.Assembly.{Diagnostic, diagnostics}
use Rattle.language.specs.Infer.{machine_of}
use Rattle.language.specs.Layout.{head_of, sheet_words, log_words}
use Rattle.language.specs.Outcome.{Refusal, text_too_long, work_too_short, invalid_utf8, outside_set, log_too_short, sheet_too_short, max_bytes, work_needed, refusal_of, admitted, zeros, filled, Reply, machine, diagnosed, refused, ReadOutcome, read_diagnostics, words_needed, read_machine, read_with, read_outcome}
use Rattle.language.proofs.Every.{by_test}
use Rattle.language.proofs.ReadCounts.{read-sheet_length}
use Rattle.form_theorems.specs.Read.{ReadAs}

-- a machine with its head and its sheet
abbrev answers : Head → List ℕ → List ℕ → ReadOutcome (List ℕ)
answers h log sheet = record { reply = machine h; log = log; sheet = sheet }

-- whether a reply is a machine
abbrev is_machine : Reply → Bool
is_machine (machine h) = true
is_machine (diagnosed n) = false
is_machine (refused r) = false

-- the head of a machine, or d
abbrev head_or : Head → Reply → Head
head_or d (machine h) = h
head_or d (diagnosed n) = d
head_or d (refused r) = d

-- ---- rows 1 to 4

-- what the four tests give
abbrev rows : Bool → Bool → Bool → ℕ → Option ℕ → Option Refusal
rows long short invalid n o = elim long as (λ _. Option Refusal) [
  | true ↦ Some text_too_long
  | false ↦ elim short [ true ↦ Some work_too_short | false ↦ elim invalid [ true ↦ Some (invalid_utf8 n) | false ↦ elim o [ Some p ↦ Some (outside_set p) | None ↦ None ] ] ]
]

-- whether there is no refusal
abbrev passes : Option Refusal → Bool
passes None = true
passes (Some r) = false

any-work : (long short invalid : Bool) (n : ℕ) (o : Option ℕ) → passes (rows long short invalid n o) ≡ true → passes (rows long false invalid n o) ≡ true
any-work true short invalid n o e = e
any-work false true invalid n o e = absurd (false≢true e)
any-work false false invalid n o e = e

passes_admitted : (t : List ℕ) (work : ℕ) → refusal_of t work ≡ None → admitted t ≡ true
unfolding admitted refusal_of
passes_admitted t work e =
    let enough : ltb (work_needed (length t)) (work_needed (length t)) ≡ false = le-ltb (work_needed (length t)) (work_needed (length t)) (omega arith) in
    ap (λ s. passes (rows (ltb max_bytes (length t)) s (ltb (valid_up_to t) (length t)) (valid_up_to t) (first_outside t))) enough
    ∙ any-work (ltb max_bytes (length t)) (ltb work (work_needed (length t))) (ltb (valid_up_to t) (length t)) (valid_up_to t) (first_outside t) (ap passes e)

-- ---- what was read

-- a machine, where there is one
record Found (ls : List (Line Span)) (n : ℕ) (h : Head) (sheet : List ℕ) : Type 0 where
  head-found : h ≡ head_of (machine_of ls)
  sheet-found : sheet ≡ filled (sheet_words (machine_of ls)) n
  sheet_enough : words_needed ls ≤ n

module _ (ls : List (Line Span)) (log sheet : ℕ) (h : Head) (l s : List ℕ) where
  no_machine : (r : Reply) (l₁ s₁ : List ℕ) → is_machine r ≡ false → ◌≡◌ {A = ReadOutcome (List ℕ)} (record { reply = r; log = l₁; sheet = s₁ }) (answers h l s) → ⊥
  no_machine r l₁ s₁ e q = false≢true (sym e ∙ ap (λ (o : ReadOutcome (List ℕ)). is_machine o.reply) q)

  found-machine : read_machine ls log sheet ≡ answers h l s → Found ls sheet h s
  unfolding read_machine
  found-machine e = by_test (ltb sheet (words_needed ls))
      (λ b. absurd (no_machine (refused (sheet_too_short (words_needed ls))) (zeros log) (zeros sheet) refl (rw (read_machine, b) at e)))
      (λ b.
      let q : answers (head_of (machine_of ls)) (zeros log) (filled (sheet_words (machine_of ls)) sheet) ≡ answers h l s = rw (read_machine, b) at e in
      record {
        head-found = sym (ap (λ (o : ReadOutcome (List ℕ)). head_or h o.reply) q);
        sheet-found = sym (ap (λ (o : ReadOutcome (List ℕ)). o.sheet) q);
        sheet_enough = ltb-false sheet (words_needed ls) b;
      })

  found_with : (ds : List (Diagnostic Span)) → read_with ds ls log sheet ≡ answers h l s → Found ls sheet h s
  unfolding read_with read_diagnostics
  found_with [] e = found-machine e
  found_with (d ∷ ds) e = absurd (by_test (ltb (log / 5) (length (d ∷ ds)))
      (λ b. no_machine (refused (log_too_short (length (d ∷ ds)))) (zeros log) (zeros sheet) refl (rw (read_with, read_diagnostics, b) at e))
      (λ b. no_machine (diagnosed (length (d ∷ ds))) (filled (log_words (d ∷ ds)) log) (zeros sheet) refl (rw (read_with, read_diagnostics, b) at e)))

-- the call read an admitted text as its machine
pub machine-read : (t : List ℕ) (work : ℕ) (log sheet : List ℕ) (h : Head) (l s : List ℕ) → ◌≡◌ {A = ReadOutcome (List ℕ)} (record { reply = machine h; log = l; sheet = s }) (read_outcome t work log sheet) → ReadAs t h s
unfolding read_outcome
machine-read t work log sheet h l s e = go (refusal_of t work) refl
  where
    ls : List (Line Span)
    ls = read_lines (decode t)

    go : (o : Option Refusal) → refusal_of t work ≡ o → ReadAs t h s
    go (Some r) q = absurd (no_machine ls (length log) (length sheet) h l s (refused r) log sheet refl (sym (rw (read_outcome, q) at e)))
    go None q =
        let f : Found ls (length sheet) h s = found_with ls (length log) (length sheet) h l s (diagnostics ls) (sym (rw (read_outcome, q) at e)) in
        let fits : length (sheet_words (machine_of ls)) ≤ length sheet = subst (λ n. n ≤ length sheet) (sym (read-sheet_length (decode t))) f.sheet_enough in
        let more : length (zeros (length sheet - length (sheet_words (machine_of ls)))) ≡ length sheet - length (sheet_words (machine_of ls)) = length-replicate _ _ in
        let same : length s ≡ length sheet = ap length f.sheet-found ∙ (length-append (sheet_words (machine_of ls)) _ ∙ omega arith) in
        record {
          is_admitted = passes_admitted t work q;
          head_is = f.head-found;
          sheet_is = f.sheet-found ∙ ap (filled (sheet_words (machine_of ls))) (sym same);
          sheet_fits = subst (λ n. length (sheet_words (machine_of ls)) ≤ n) (sym same) fits;
        }
