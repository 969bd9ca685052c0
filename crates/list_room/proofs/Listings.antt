-- Every listing has room: 2,097,152 bytes suffice for every text.
-- A text that is listed has 2,048 bytes at most, and its names are parts of it that do not overlap, so the two of a rule have
-- 2,048 bytes at most.
-- A rule has a tape and takes 18 words of the sheet at least, so its line has at most 118 bytes a word; all else has fewer.
-- With 16,384 words, and the names of the states in three lines, that makes less than 2,000,000 bytes.
use Prim.Native.Nat.{ℕ, zero, suc, ◌*◌, ◌-◌, ◌≤◌}
use native.Mathlib.Omega.{arith}
use mathlib.Core.List.{List, [], ◌∷◌}
use Rattle.std.specs.Prelude.{Option, None, Some}
use mathlib.Core.Path.{◌≡◌, refl, ap}
use borrow.Author.Tests.{ltb-false}
use lib.Dec.{ltb}
use lib.ListN.{length, take, length-replicate}
use Rattle.chars.specs.Utf8.{decode, valid_up_to}
use Rattle.chars.proofs.Theorems.{length-encode, valid_utf8}
use Rattle.lexer.specs.Tokens.{Span, tokens}
use Rattle.language.specs.Machine.{Located, Rule, State, Machine}
use Rattle.language.specs.Lines.{Line, covering, read_lines}
use Rattle.language.specs.Assembly.{Diagnostic, diagnostics}
use Rattle.language.specs.Infer.{machine_of}
use Rattle.language.specs.Layout.{place_or_none, sheet_words}
use Rattle.language.specs.Outcome.{refusal_number, refusal_value, Refusal, refusal_of, log_too_short, sheet_too_short, zeros, refused, read_diagnostics, words_needed, read_machine, read_with, read_outcome, work_needed}
use Rattle.list_lines.specs.Listing.{lines, listing, listed}
use Rattle.language.proofs.Every.{by_test, Every, Maybe}
use Rattle.language.proofs.ReadCounts.{read-sheet_length}
use Rattle.language.proofs.TokenPlaces.{Stands}
use Rattle.language.proofs.AssemblyHolds.{GoodRuleOf}
use Rattle.language.proofs.AnswerBack.{placed_in, machine_placed}
use Rattle.list_room.proofs.NameTokens.{total, tokens_pay}
use Rattle.list_room.proofs.NameParsers.{name_bytes}
use Rattle.list_room.proofs.NameLines.{line_bytes, lines_pay}
use Rattle.list_room.proofs.NameMachine.{Small, machine_small}
use Rattle.list_room.proofs.Pieces.{Short, ◌▸◌, less, span_bytes, refused_short, bytes_short, diagnostics_short}
use Rattle.list_room.proofs.MachineLines.{state_bytes, SmallRule, machine_short}

-- ---- names at their places

module _ (cs : List ℕ) where
  place_bytes : (l : Located Span (List ℕ)) → Stands cs l.place l.value → span_bytes l.place ≡ name_bytes l
  place_bytes l h = omega (arith, h.start_is, h.end_is)

  states_bytes : (l : List (State Span)) → Every (λ s. Stands cs s.name.place s.name.value) l → total state_bytes l ≡ total (λ s. name_bytes s.name) l
  unfolding total
  states_bytes [] h = refl
  states_bytes (s ∷ l) h = omega (arith, place_bytes s.name h.0, states_bytes l h.1)

  start_bytes : (n : ℕ) (o : Option (Located Span (List ℕ))) → Maybe (λ l. Stands cs l.place l.value) o → Maybe (λ l. name_bytes l ≤ n) o → span_bytes (place_or_none o) ≤ n
  unfolding place_or_none
  start_bytes n None h k = omega arith
  start_bytes n (Some l) h k = omega (arith, place_bytes l h, k)

  rules_bytes : (n : ℕ) → n ≤ 2048 → (rs : List (Rule Span)) → Every (GoodRuleOf (placed_in cs)) rs → Every (Small n) rs → Every SmallRule rs
  rules_bytes n h [] g k = tt
  rules_bytes n h (r ∷ rs) g k =
      ((omega (arith, h, place_bytes r.from g.0.from_good, place_bytes r.to g.0.to_good, k.0.0), k.0.1), rules_bytes n h rs g.1 k.1)

-- ---- what a reading call answers

module _ (text : List ℕ) (fits : length text ≤ 2048) where
  abbrev cs : List ℕ
  cs = decode text

  abbrev ls : List (Line Span)
  ls = read_lines cs

  abbrev m : Machine Span
  m = machine_of ls

  names_fit : total line_bytes ls ≤ 2048
  unfolding read_lines
  names_fit =
      let whole : length (take (valid_up_to text) text) ≤ length text = take_whole (valid_up_to text) text in
      omega (arith, lines_pay covering (tokens cs), tokens_pay cs, length-encode cs, ap length (valid_utf8 text), whole, fits)
    where
      take_whole : (n : ℕ) (l : List ℕ) → length (take n l) ≤ length l
      take_whole zero l = omega arith
      take_whole (suc n) [] = omega arith
      take_whole (suc n) (a ∷ l) = omega (arith, take_whole n l)

  refusal_short : (x : Refusal) (log sheet : List ℕ) → Short 2000027 (lines text (record { reply = refused x; log = log; sheet = sheet }))
  unfolding lines
  refusal_short x log sheet = less (omega arith) (refused_short (refusal_number x) (refusal_value x))

  diagnosed_short : (ds : List (Diagnostic Span)) (sheet : ℕ) → Short 2000027 (lines text (read_diagnostics ds 5120 sheet))
  unfolding read_diagnostics lines
  diagnosed_short ds sheet = by_test (ltb 1024 (length ds))
      (λ e. rw (e, read_diagnostics) (refusal_short (log_too_short (length ds)) (zeros 5120) (zeros sheet)))
      (λ e. rw (e, read_diagnostics) (less (omega arith) (bytes_short text ▸ diagnostics_short text (length ds) _ 1024 (omega (arith, ltb-false _ _ e)))))

  machine_fits : Short 2000027 (lines text (read_machine ls 5120 16384))
  unfolding read_machine words_needed lines
  machine_fits = by_test (ltb 16384 (words_needed ls))
      (λ e. rw (e, read_machine) (refusal_short (sheet_too_short (words_needed ls)) (zeros 5120) (zeros 16384)))
      (λ e. rw (e, read_machine) (
      let few : length (sheet_words m) ≤ 16384 = omega (arith, read-sheet_length cs, ltb-false _ _ e) in
      less (omega arith) (bytes_short text ▸ machine_short text m (zeros (16384 - length (sheet_words m))) few
      (omega (arith, names_fit, states_bytes cs m.states (machine_placed cs).states_good, (machine_small cs).states_small))
      (start_bytes cs 8192 m.start (machine_placed cs).start_good (more_start m.start (machine_small cs).start_small))
      (rules_bytes cs (total line_bytes ls) names_fit m.rules (machine_placed cs).rules_good (machine_small cs).rules_small))))
    where
      more_start : (o : Option (Located Span (List ℕ))) → Maybe (λ l. name_bytes l ≤ 4 * total line_bytes ls) o → Maybe (λ l. name_bytes l ≤ 8192) o
      more_start None h = tt
      more_start (Some l) h = omega (arith, h, names_fit)

  with_short : (ds : List (Diagnostic Span)) → Short 2000027 (lines text (read_with ds ls 5120 16384))
  unfolding read_with
  with_short [] = machine_fits
  with_short (d ∷ ds) = diagnosed_short (d ∷ ds) 16384

  outcome_short : (o : Option Refusal) → refusal_of text (work_needed 2048) ≡ o → Short 2000027 (lines text (read_outcome text (work_needed 2048) (zeros 5120) (zeros 16384)))
  unfolding read_outcome
  outcome_short (Some x) e = rw (e, read_outcome) (refusal_short x (zeros 5120) (zeros 16384))
  outcome_short None e = rw (e, read_outcome, length-replicate {A = ℕ} 5120 0, length-replicate {A = ℕ} 16384 0) (with_short (diagnostics ls))

-- ---- every text

-- the listing of every text has room
pub room : (text : List ℕ) → length (listed text) ≤ 2097152
unfolding listed listing
room text = by_test (ltb 2048 (length text))
    (λ e. rw (e, listed) (omega (arith, (refused_short 1 0).short [])))
    (λ e. rw (e, listed) (omega (arith, (outcome_short text (ltb-false _ _ e) (refusal_of text (work_needed 2048)) refl).short [])))
