-- What is printed for an answer, whole.
use mathlib.Core.Path.{◌≡◌, refl, sym, ap, ◌∙◌}
use Prim.Native.Nat.{ℕ, ◌*◌, ◌<◌, ◌≤◌}
use mathlib.Core.List.{List, [], ◌++◌}
use lib.ListN.{length, take, drop, replicate, length-replicate}
use lib.Seq.{take_at}
use native.Mathlib.Omega.{arith}
use borrow.Author.Tests.{lt-ltb, le-ltb}
use Rattle.language.specs.Outcome.{refusal_number, refusal_value, zeros, ReadOutcome, read_outcome}
use Rattle.language.specs.Plain.{◌⨾◌}
use Rattle.machine.specs.declared.Head.{Head}
use Rattle.std.specs.Prelude.{Result, Ok, Err}
use Rattle.reader_answer.specs.declared.Refusal.{Refusal}
use Rattle.reader_answer.specs.declared.Refusal.TheVariants.{TextTooLong}
use Rattle.reader_answer.specs.declared.Answer.{Answer}
use Rattle.reader_answer.specs.declared.Answer.TheVariants.{Machine, Diagnostics}
use Rattle.reader_answer.specs.Answer.{refusal_in, read_in}
use Rattle.emit.specs.Output as O
use Rattle.emit.specs.Output.{appended, counted}
use Rattle.emit.specs.declared.Output.{Output}
use Rattle.emit.specs.Appends.{held}
use Rattle.emit.proofs.Appends.{appended-nil, appended-front}
use Rattle.list_lines.specs.Puts.{Puts}
use Rattle.list_lines.proofs.Alone.{listing_alone}
use Rattle.list_room.proofs.Listings.{room}
use Rattle.list_lines.specs.Listing.{lines, listing, listed, bytes_line, machine_lines, diagnostic_lines, refused_line}

-- ---- by the answer's case

module _ (a : Result Answer Refusal) (text log sheet : List ℕ) {o r : Output} where
  pub machine-listed : (x : Answer) (h : Head) → a ≡ Ok x → x ≡ Machine h → Puts (bytes_line text ⨾ machine_lines text h.counts h.start sheet) o r
      → Puts (lines text (read_in a log sheet)) o r
  unfolding lines
  machine-listed x h e f w = rw (e, f) w

  pub diagnostics-listed : (x : Answer) (n : ℕ) → a ≡ Ok x → x ≡ Diagnostics n → Puts (bytes_line text ⨾ diagnostic_lines text n log) o r → Puts (lines text (read_in a log sheet)) o r
  unfolding lines
  diagnostics-listed x n e f w = rw (e, f) w

  pub refused-listed : (x : Refusal) → a ≡ Err x → (n v : ℕ) → n ≡ refusal_number (refusal_in x) → v ≡ refusal_value (refusal_in x) → Puts (refused_line n v) o r → Puts (lines text (read_in a log sheet)) o r
  unfolding lines
  refused-listed x e n v p q w = rw (e, ← p, ← q) w

-- ---- the whole

-- nothing follows
pub whole : (text : List ℕ) (x : ReadOutcome (List ℕ)) {o r : Output} → r.at < 18446744073709551616 → Puts (lines text x) o r → held r ≡ appended (held o) (listing text x)
unfolding listing
whole text x {o} {r} h w = sym (appended-nil (held r) h) ∙ w.put []

-- in the row that was lent, what an output holds that was empty
pub at_front : (row row' : List ℕ) (n : ℕ) (o r : Output) (printed listed : List ℕ) → row' ≡ r.row.now → n ≡ r.at → held o ≡ O.output row 0 → held r ≡ appended (held o) printed → printed ≡ listed
    → O.output row' n ≡ appended (O.output row 0) listed
at_front row row' n o r printed listed e f g h k = rw (e, f, ← g, ← k) h

-- a text of more bytes than are taken, and any other
module _ (text : List ℕ) where
  pub too_long : (a : Result Answer Refusal) (log sheet : List ℕ) → 2048 < length text → a ≡ Err TextTooLong → listing text (read_in a log sheet) ≡ listed text
  unfolding listed listing lines
  too_long a log sheet h e = rw (e, listed, lt-ltb 2048 (length text) h)

  pub text_listed : (work : ℕ) (sheet : List ℕ) (outcome : ReadOutcome (List ℕ)) → length text ≤ 2048 → work ≡ 12294 → length sheet ≡ 16384
      → outcome ≡ read_outcome text work (replicate 5120 0) sheet → listing text outcome ≡ listed text
  unfolding listed
  text_listed work sheet outcome h m n e =
      let z : ℕ = 0 in
      let same : listing text (read_outcome text work (replicate 5120 z) sheet) ≡ listing text (read_outcome text work (zeros (5 * 1024)) (zeros 16384)) =
      listing_alone text work (replicate 5120 z) (zeros (5 * 1024)) sheet (zeros 16384) refl (n ∙ sym (length-replicate 16384 z)) in
      rw (listed, le-ltb 2048 (length text) h) (ap (listing text) e ∙ (same ∙ ap (λ k. listing text (read_outcome text k (zeros (5 * 1024)) (zeros 16384))) m))

-- in a row that has room for every listing it stands whole at the front
module _ (row row' text : List ℕ) (n : ℕ) (long : length row ≡ 2097152) (e : O.output row' n ≡ appended (O.output row 0) (listed text)) where
  pub in_full : take n row' ≡ listed text
  unfolding appended
  in_full =
      let l : List ℕ = listed text in
      let has_room : length l ≤ length row = omega (arith, long, room text) in
      let front : O.output row' n ≡ O.output (l ++ drop (length l) row) (length l) = e ∙ appended-front row l (omega (arith, long)) has_room in
      ap (λ (o : O.Output). take o.at o.row) front ∙ take_at l (drop (length l) row) (length l) refl

  pub counts : n ≡ length (take n row')
  unfolding appended
  counts =
      let count : n ≡ counted 0 (length (listed text)) = ap (λ (o : O.Output). o.at) e in
      omega (arith, count, room text, ap length in_full)
