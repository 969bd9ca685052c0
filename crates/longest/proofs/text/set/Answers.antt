-- Each letter goes behind a comma, and the bracket closes behind the last.
use Rattle.std.proofs.Common.{ℕ, ◌+◌, ◌≡◌, ap, ◌∙◌, List, [], ◌∷◌, ◌++◌, arith}
use Rattle.longest.specs.Line.{parted, set_of}
use Rattle.longest.proofs.Chain.{after, same_bytes, enclosed_one, enclosed_more, grown}
use Rattle.longest.proofs.text.set.Goals as goal

abbrev letter : ℕ → List ℕ
letter j = (0x61 + j) ∷ []

pub returns-then-size-eq1 : goal.returns-then-size-eq1
unfolding set_of
returns-then-size-eq1 c = same_bytes _ _ (enclosed_one 0x7B 0x7D letter c.args.size c.if-size-eq1.true) c.byte.ensures

pub loop-i-init : goal.loop-i-init
unfolding parted
loop-i-init c = record { from = omega arith; so_far = c.bytes.ensures }

pub loop-i-preserved : goal.loop-i-preserved
loop-i-preserved c = record {
  from = omega arith;
  so_far = same_bytes _ _ (grown 0x7B letter c.loop-i.i c.loop-i.invariant.from) (after _ _ (after _ _ c.loop-i.invariant.so_far c.byte-in-loop-i.ensures) c.byte-in-loop-i-2.ensures);
}

pub returns : goal.returns
unfolding set_of
returns c =
    let q : c.loop-i.i ≡ c.args.size = omega arith in
    same_bytes
    _
    _
    (ap (λ (k : ℕ). 0x7B ∷ (parted letter k ++ 0x7D ∷ [])) q ∙ enclosed_more 0x7B 0x7D letter c.args.size c.if-size-eq1.false)
    (after _ _ c.loop-i.invariant.so_far c.byte-2.ensures)
