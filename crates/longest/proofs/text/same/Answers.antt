-- Each letter goes behind a comma, and the bracket closes behind the last.
use Rattle.std.proofs.Common.{ℕ, ◌+◌, ◌≡◌, ap, ◌∙◌, List, [], ◌∷◌, ◌++◌, append_assoc, sym, arith}
use Rattle.longest.specs.Line.{parted, same_of}
use Rattle.longest.proofs.Chain.{after, same_bytes, enclosed_one, enclosed_more, grown}
use Rattle.longest.proofs.text.same.Goals as goal

pub returns-then-tapes-eq1 : goal.returns-then-tapes-eq1
unfolding same_of
returns-then-tapes-eq1 c = same_bytes _ _ (enclosed_one 0x28 0x29 (λ i. c.args.letter ∷ []) c.args.tapes c.if-tapes-eq1.true) c.byte.ensures

pub loop-i-init : goal.loop-i-init
unfolding parted
loop-i-init c = record { from = omega arith; so_far = c.bytes.ensures }

pub loop-i-preserved : goal.loop-i-preserved
loop-i-preserved c = record {
  from = omega arith;
  so_far =
      let part : ℕ → List ℕ = λ i. c.args.letter ∷ [] in
      let e : (0x28 ∷ parted part c.loop-i.i) ++ 0x2C ∷ c.args.letter ∷ [] ≡ 0x28 ∷ parted part (c.loop-i.i + 1) =
      sym (append_assoc (0x28 ∷ parted part c.loop-i.i) (0x2C ∷ []) (c.args.letter ∷ [])) ∙ grown 0x28 part c.loop-i.i c.loop-i.invariant.from in
      same_bytes _ _ e (after _ _ c.loop-i.invariant.so_far c.bytes-in-loop-i.ensures);
}

pub returns : goal.returns
unfolding same_of
returns c =
    let q : c.loop-i.i ≡ c.args.tapes = omega arith in
    same_bytes
    _
    _
    (ap (λ (k : ℕ). 0x28 ∷ (parted (λ i. c.args.letter ∷ []) k ++ 0x29 ∷ [])) q ∙ enclosed_more 0x28 0x29 (λ i. c.args.letter ∷ []) c.args.tapes c.if-tapes-eq1.false)
    (after _ _ c.loop-i.invariant.so_far c.byte-2.ensures)
