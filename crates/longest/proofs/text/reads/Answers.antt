-- Each set goes behind a comma, and the bracket closes behind the last.
use Rattle.std.proofs.Common.{ℕ, ◌+◌, ◌≡◌, ap, sym, ◌∙◌, List, [], ◌∷◌, ◌++◌, arith}
use Rattle.longest.specs.Line.{parted, set_of, set_size, tapes_for, reads_of}
use Rattle.longest.proofs.Chain.{after, same_bytes, enclosed_one, enclosed_more, grown}
use Rattle.longest.proofs.Tapes.{few_tapes}
use Rattle.longest.proofs.text.reads.Goals as goal

abbrev part : ℕ → ℕ → List ℕ
part h i = set_of (set_size h i)

pub returns-then-tapes-eq1 : goal.returns-then-tapes-eq1
unfolding reads_of
returns-then-tapes-eq1 c =
    same_bytes
    _
    _
    (ap set_of c.set_size.ensures ∙ enclosed_one 0x28 0x29 (part c.args.pairs) (tapes_for c.args.pairs) (sym c.tapes_for-tapes.ensures ∙ c.if-tapes-eq1.true))
    c.set.ensures

pub loop-tape-init : goal.loop-tape-init
unfolding parted
loop-tape-init c = record {
  from = omega arith;
  so_far = same_bytes _ _ (ap (λ (s : ℕ). 0x28 ∷ set_of s) c.set_size-2.ensures) (after _ _ c.byte.ensures c.set-2.ensures);
}

pub loop-tape-preserved : goal.loop-tape-preserved
loop-tape-preserved c = record {
  from = omega arith;
  so_far =
      let e : ((0x28 ∷ parted (part c.args.pairs) c.loop-tape.tape) ++ 0x2C ∷ []) ++ set_of c.set_size-in-loop-tape.result ≡ 0x28 ∷ parted (part c.args.pairs) (c.loop-tape.tape + 1) =
      ap (λ (s : ℕ). ((0x28 ∷ parted (part c.args.pairs) c.loop-tape.tape) ++ 0x2C ∷ []) ++ set_of s) c.set_size-in-loop-tape.ensures ∙ grown 0x28 (part c.args.pairs) c.loop-tape.tape c.loop-tape.invariant.from in
      same_bytes _ _ e (after _ _ (after _ _ c.loop-tape.invariant.so_far c.byte-in-loop-tape.ensures) c.set-in-loop-tape.ensures);
}

pub returns : goal.returns
unfolding reads_of
returns c =
    let q : c.loop-tape.tape ≡ tapes_for c.args.pairs = omega (arith, c.tapes_for-tapes.ensures, (few_tapes c.args.pairs).one) in
    let n : tapes_for c.args.pairs ≡ 1 → ⊥ = λ e. c.if-tapes-eq1.false (c.tapes_for-tapes.ensures ∙ e) in
    same_bytes
    _
    _
    (ap (λ (k : ℕ). 0x28 ∷ (parted (part c.args.pairs) k ++ 0x29 ∷ [])) q ∙ enclosed_more 0x28 0x29 (part c.args.pairs) (tapes_for c.args.pairs) n)
    (after _ _ c.loop-tape.invariant.so_far c.byte-2.ensures)
