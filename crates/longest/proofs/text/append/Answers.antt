-- The parts of the line, one after another.
use Rattle.std.proofs.Common.{ℕ, ap, [], ◌∷◌, ◌++◌}
use Rattle.longest.specs.Line.{reads_of, same_of, line_for}
use Rattle.longest.proofs.Chain.{after, same_bytes}
use Rattle.longest.proofs.text.append.Goals as goal

pub returns : goal.returns
unfolding line_for
returns c =
    same_bytes
    _
    _
    (ap
    (λ (k : ℕ).
    (0xCE ∷ 0xB4 ∷ 0x28 ∷ 0x61 ∷ 0x2C ∷ [])
    ++ (reads_of c.args.pairs
    ++ ((0x29 ∷ 0x3D ∷ 0x28 ∷ 0x61 ∷ 0x2C ∷ [])
    ++ (same_of 0x61 k ++ (0x2C ∷ [] ++ (same_of 0x52 k ++ 0x29 ∷ []))))))
    c.tapes_for-tapes.ensures)
    (after _ _ c.bytes.ensures (after _ _ c.reads.ensures (after _ _ c.bytes-2.ensures (after _ _ c.same.ensures (after _ _ c.bytes-3.ensures (after _ _ c.same-2.ensures c.bytes-4.ensures))))))
