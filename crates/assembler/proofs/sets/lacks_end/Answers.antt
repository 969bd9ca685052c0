use mathlib.Core.Path.{sym, ◌∙◌}
use mathlib.Core.Bool.{false≢true}
use Rattle.tokens.specs.Listed.{tokens_of}
use Rattle.assembler.proofs.RuleLaws.{four_lack, not_kind}
use Rattle.assembler.proofs.sets.lacks_end.Goals as goal
use Rattle.assembler.proofs.sets.lacks_end.Goals.{then-at-ne-R_BRACE, else-at-ne-R_BRACE, then-at-ne-R_BRACE-2, else-at-ne-R_BRACE-2}

pub returns-then-at-ne-R_BRACE-3 : goal.returns-then-at-ne-R_BRACE-3
returns-then-at-ne-R_BRACE-3 c = λ y.
    elim c.if-at-ne-R_BRACE-2.branch [
      | then-at-ne-R_BRACE-2 w ↦ elim c.if-at-ne-R_BRACE.branch [
        | then-at-ne-R_BRACE v ↦
            four_lack (tokens_of c.args.tokens.now) c.args.from _ _ _ _ c.at.ensures v.at-then-at-ne-R_BRACE.ensures w.at-then-at-ne-R_BRACE-2.ensures c.at-then-at-ne-R_BRACE-3.ensures
            v.if-at-ne-R_BRACE.true (not_kind v.at-then-at-ne-R_BRACE.result 7 (sym v.value-is ∙ w.if-at-ne-R_BRACE-2.true)) (not_kind w.at-then-at-ne-R_BRACE-2.result 7 (sym w.value-is ∙ c.if-at-ne-R_BRACE-3.true)) (not_kind c.at-then-at-ne-R_BRACE-3.result 7 y)
        | else-at-ne-R_BRACE v ↦ absurd (not_kind c.at.result 7 (sym v.value-is ∙ w.if-at-ne-R_BRACE-2.true) v.if-at-ne-R_BRACE.false)
      ]
      | else-at-ne-R_BRACE-2 w ↦ absurd (false≢true (sym w.if-at-ne-R_BRACE-2.false ∙ sym w.value-is ∙ c.if-at-ne-R_BRACE-3.true))
    ]
