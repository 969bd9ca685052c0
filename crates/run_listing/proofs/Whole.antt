-- What is printed stands whole at the front of the row that was lent: crate run_room says that there is room.
use mathlib.Core.Path.{◌≡◌, refl, sym, ap, ◌∙◌}
use Prim.Native.Nat.{ℕ, min, ◌<◌, ◌≤◌}
use native.Mathlib.Omega.{arith}
use mathlib.Core.List.{List, [], ◌++◌}
use borrow.Author.Tests.{lt-ltb, le-ltb}
use lib.ListN.{length, take, drop}
use lib.Seq.{take_at}
use Rattle.language.specs.Plain.{Piece}
use Rattle.emit.specs.Output as O
use Rattle.emit.specs.Output.{appended, counted}
use Rattle.emit.specs.declared.Output.{Output}
use Rattle.emit.specs.Appends.{held}
use Rattle.emit.proofs.Appends.{appended-nil, appended-front}
use Rattle.list_lines.specs.Listing.{refused_line}
use Rattle.list_lines.specs.Puts.{Puts}
use Rattle.run_arguments.specs.Arguments.{max_cells}
use Rattle.run_lines.specs.Printed.{max_text, text_lines, printed}
use Rattle.run_room.proofs.Room.{most_bytes, room}

-- a piece that was put into an empty output, and nothing behind it
pub at_front : (row row' : List ℕ) (n : ℕ) (o r : Output) (p : Piece) (bytes : List ℕ) → r.at < 18446744073709551616 → held o ≡ O.output row 0
    → Puts p o r → row' ≡ r.row.now → n ≡ r.at → p [] ≡ bytes → O.output row' n ≡ appended (O.output row 0) bytes
at_front row row' n o r p bytes h g w e f k =
    rw (e, f) (sym (appended-nil (held r) h) ∙ w.put [] ∙ ap (λ x. appended x (p [])) g ∙ ap (appended (O.output row 0)) k)

-- a text that is too long, and any other
module _ (text : List ℕ) (steps cells : ℕ) where
  pub too_long : max_text < length text → refused_line 1 0 [] ≡ printed text steps cells
  unfolding printed
  too_long h = rw (lt-ltb max_text (length text) h, printed)

  pub not_long : (n : ℕ) → n ≡ min cells max_cells → length text ≤ max_text → text_lines text steps n [] ≡ printed text steps cells
  unfolding printed
  not_long n e h = rw (e, le-ltb max_text (length text) h, printed)

  module _ (row row' : List ℕ) (n : ℕ) (long : length row ≡ most_bytes)
      (e : O.output row' n ≡ appended (O.output row 0) (printed text steps cells)) where
    abbrev bytes : List ℕ
    bytes = printed text steps cells

    pub in_full : take n row' ≡ bytes
    unfolding appended
    in_full =
        let has_room : length bytes ≤ length row = omega (arith, long, room text steps cells) in
        let front : O.output row' n ≡ O.output (bytes ++ drop (length bytes) row) (length bytes) = e ∙ appended-front row bytes (omega (arith, long)) has_room in
        ap (λ (o : O.Output). take o.at o.row) front ∙ take_at bytes (drop (length bytes) row) (length bytes) refl

    pub counts : n ≡ length (take n row')
    unfolding appended
    counts =
        let count : n ≡ counted 0 (length bytes) = ap (λ (o : O.Output). o.at) e in
        omega (arith, count, room text steps cells, ap length in_full)
