-- A log of unused records is a row of zeros, and its records as reading leaves them are the words that the definition leaves.
use Prim.Native.Nat.{ℕ, zero, suc, ◌+◌, ◌-◌, ◌*◌, ◌/◌, ◌≤◌}
use native.Mathlib.Omega.{arith}
use mathlib.Core.List.{List, [], ◌∷◌, ◌++◌, map}
use mathlib.Core.Path.{◌≡◌, refl, sym, ap, ap₂, ◌∙◌}
use lib.Dec.{ltb}
use lib.ListN.{length, take, drop, replicate, length-replicate, length-append, length-map, drop_of_length-le}
use lib.Seq.{take_all}
use Rattle.lexer.specs.Tokens.{Span}
use Rattle.chars.specs.Utf8.{decode}
use Rattle.diag.specs.declared.Diagnostic.{Diagnostic}
use Rattle.diag.specs.Log.{flat, records}
use Rattle.diag.proofs.Records.{length-flat, length-records, flat-records}
use Rattle.diag_records.specs.Unused.{unused}
use Rattle.language.specs.Lines.{Line, read_lines}
use Rattle.language.specs.Assembly as A
use Rattle.language.specs.Layout as L
use Rattle.language.specs.Outcome.{Refusal, refusal_of, zeros, ReadOutcome, read_outcome, read_with, read_machine, read_diagnostics, words_needed}
use Rattle.language.proofs.Every.{by_test}
use borrow.Author.Tests.{ltb-false}
use Rattle.std.specs.Prelude.{Result, Option, None, Some}
use Rattle.reader_answer.specs.declared.Answer.{Answer}
use Rattle.reader_answer.specs.declared.Refusal as Code
use Rattle.reader_answer.specs.Answer.{read_in}
use Rattle.reader_steps.specs.Records.{read_records}
use Rattle.reader_steps.proofs.OnWords as O

-- unused records are zeros
flat-unused : (n : ℕ) → flat (replicate n unused) ≡ replicate (5 * n) 0
unfolding flat
flat-unused zero = refl
flat-unused (suc n) =
    let five : suc (suc (suc (suc (suc (5 * n))))) ≡ 5 * suc n = omega arith in
    ap (λ (w : List ℕ). 0 ∷ 0 ∷ 0 ∷ 0 ∷ 0 ∷ w) (flat-unused n) ∙ ap (λ (k : ℕ). replicate k 0) five

-- ---- a reading call keeps the log's length

-- five words to a diagnostic
words-length : (ds : List (A.Diagnostic Span)) → length (L.log_words ds) ≡ 5 * length ds
unfolding L.log_words
words-length ds = length-flat (map L.record_of ds) ∙ ap (λ (n : ℕ). 5 * n) (length-map ds L.record_of)

module _ (ls : List (Line Span)) (n s : ℕ) where
  machine_keeps : length (read_machine ls n s).log ≡ n
  unfolding read_machine
  machine_keeps = by_test (ltb s (words_needed ls)) (λ b. rw (read_machine, b) (length-replicate n 0)) (λ b. rw (read_machine, b) (length-replicate n 0))

  diagnostics_keep : (ds : List (A.Diagnostic Span)) → length (read_diagnostics ds n s).log ≡ n
  unfolding read_diagnostics
  diagnostics_keep ds = by_test (ltb (n / 5) (length ds)) (λ b. rw (read_diagnostics, b) (length-replicate n 0)) (λ b.
      let fits : length ds ≤ n / 5 = ltb-false (n / 5) (length ds) b in
      let k : ℕ = n - length (L.log_words ds) in
      let more : length (L.log_words ds ++ zeros k) ≡ length (L.log_words ds) + length (zeros k) = length-append (L.log_words ds) (zeros k) in
      let rest : length (zeros k) ≡ k = length-replicate k 0 in
      let whole : length (L.log_words ds ++ zeros k) ≡ n = more ∙ omega (arith, rest, words-length ds, fits) in
      rw (read_diagnostics, b) whole)

  with_keeps : (ds : List (A.Diagnostic Span)) → length (read_with ds ls n s).log ≡ n
  unfolding read_with
  with_keeps [] = machine_keeps
  with_keeps (d ∷ ds) = diagnostics_keep (d ∷ ds)

log_keeps : (t : List ℕ) (work : ℕ) (log sheet : List ℕ) → length (read_outcome t work log sheet).log ≡ length log
unfolding read_outcome
log_keeps t work log sheet = go (refusal_of t work) refl
  where
    ls : List (Line Span)
    ls = read_lines (decode t)

    go : (o : Option Refusal) → refusal_of t work ≡ o → length (read_outcome t work log sheet).log ≡ length log
    go (Some r) q = rw (read_outcome, q)
    go None q = rw (read_outcome, q) (with_keeps ls (length log) (length sheet) (A.diagnostics ls))

-- ---- the call

-- reading answered a and left the records l and the sheet s; the records were copied over 5,120 words
module _ (t : List ℕ) (work : ℕ) (log : List Diagnostic) (sheet : List ℕ) (a : Result Answer Code.Refusal) (l : List Diagnostic) (s : List ℕ) (unused-log : log ≡ replicate 1024 unused) (read : read_in a l s ≡ read_records t work log sheet) where
  abbrev o : ReadOutcome (List ℕ)
  o = O.o t work log sheet a l s read

  same_log : l ≡ records (length log) o.log
  same_log = O.log_is t work log sheet a l s read

  -- 5,120 zeros
  abbrev none_said : List ℕ
  none_said = replicate 5120 0

  zero_words : flat log ≡ none_said
  zero_words = ap flat unused-log ∙ flat-unused 1024

  zeros-length : length none_said ≡ 5120
  zeros-length = let z : ℕ = 0 in length-replicate 5120 z

  count : length log ≡ 1024
  count = ap length unused-log ∙ length-replicate 1024 unused

  pub log-length : length l ≡ 1024
  log-length = ap length same_log ∙ (length-records (length log) o.log ∙ count)

  module _ (words words' : List ℕ) (long : length words ≡ 5120) (copied : words' ≡ flat (take 1024 l) ++ drop (5 * 1024) words) where
    -- all of them, and nothing behind
    copied_all : words' ≡ o.log
    copied_all =
        let all : take 1024 l ≡ records 1024 o.log = take_all 1024 l (omega (arith, log-length)) ∙ (same_log ∙ ap (λ n. records n o.log) count) in
        let short : length words ≤ 5 * 1024 = omega (arith, long) in
        let none_left : drop (5 * 1024) words ≡ [] = drop_of_length-le words short in
        let kept : length o.log ≡ 5120 = log_keeps t work (flat log) sheet ∙ (ap length zero_words ∙ zeros-length) in
        let within : length o.log ≤ 5 * 1024 = omega (arith, kept) in
        let none-behind : drop (5 * 1024) o.log ≡ [] = drop_of_length-le o.log within in
        copied ∙ (ap₂ (λ r b. flat r ++ b) all (none_left ∙ sym none-behind) ∙ flat-records 1024 o.log (omega (arith, kept)))

    pub read_as_words : read_in a words' s ≡ read_outcome t work (replicate 5120 0) sheet
    read_as_words = ap (λ w. read_in a w s) copied_all ∙ (O.on-words t work log sheet a l s read ∙ ap (λ w. read_outcome t work w sheet) zero_words)
