-- After one more read: what the row's front held stays, and what the read gave stands behind it.
use Rattle.std.proofs.Common.{◌≡◌, ℕ, ◌+◌, ◌≤◌, List, ◌++◌, rules, length, take, drop, sym, ap, ◌∙◌, subst, le_refl, drop_at, length-take-le}
use Rattle.std.proofs.Math.Seq.{take-add, take-append-le}
use Rattle.std.proofs.lemmas.Slice.{take-put_mid_below}
use Rattle.std.specs.Io.KnownBytes.{Consumes}
use Rattle.std.proofs.KnownBytes.{Consumes-trans}
use borrow.Rule.Slice.PartMut.{put_mid, post_of}
use Rattle.program_input.proofs.fill.Goals as goal

front_grown : (a k n : ℕ) (xs ys : List ℕ) → a ≤ length xs → n ≤ length ys → take a xs ++ take n ys ≡ take (a + n) (put_mid a k xs ys)
front_grown a k n xs ys within fits =
    let row = put_mid a k xs ys in
    let after = post_of a k xs in
    let front : take a row ≡ take a xs = take-put_mid_below a k xs ys a (le_refl a) within in
    let behind : take n (drop a row) ≡ take n ys = ap (take n) (drop_at (take a xs) (ys ++ after) a (length-take-le a xs within)) ∙ take-append-le n ys after fits in
    sym (take-add a n row ∙ cc)

pub loop-done-preserved : goal.loop-done-preserved
loop-done-preserved g c =
    let read = c.in-Ok.ensures in
    record {
      within = search rules;
      taken = subst (Consumes _ _) (front_grown c.loop-done.done _ c.in-Ok.n c.loop-done.row c.read.new.buf c.loop-done.invariant.within read.bound.0)
          (Consumes-trans _ _ _ _ _ c.loop-done.invariant.taken read.bytes.0);
    }
