-- Answers for `replay::form_agrees`: the outcome that the definition compares is what the writing call gives, and work that it
-- must leave holds the front of `before`.
use Rattle.std.proofs.Common.{◌≡◌, Bool, true, false, refl, sym, ◌∙◌}
use Rattle.replay.proofs.Laws.{text_from, form-answer, form-rows, form-output, form-work}
use Rattle.replay.proofs.Stored.form_agrees.Goals as goal
use Rattle.replay.proofs.Stored.form_agrees.Goals.{then-left, else-left, then-rows_left, else-rows_left}

pub returns-then-output_at : goal.returns-then-output_at
returns-then-output_at c = elim c.if-rows_left.branch [
  | then-rows_left v ↦ elim c.if-left.branch [
    | then-left w ↦
        form-work _ _ _ _ _ _ _ _ _ _ (rw (text_from c.args.self.now.case.now c.args.end) at c.pevzoncs_write-number.ensures.0) refl _ c.left.ensures w.if-left.true _ w.rows_left.ensures (sym w.value-is ∙ v.if-rows_left.true) _ v.output_at.ensures
        (sym v.value-is ∙ c.if-output_at.true) _ _ _ c.work_left.ensures c.pevzoncs_write-number.ensures.1 c.requires.soiled
    | else-left w ↦ let e : ◌≡◌ {A = Bool} true false = sym v.if-rows_left.true ∙ w.value-is ∙ w.if-left.false in cc
  ]
  | else-rows_left v ↦ let e : ◌≡◌ {A = Bool} true false = sym c.if-output_at.true ∙ v.value-is ∙ v.if-rows_left.false in cc
]

pub returns-else-output_at : goal.returns-else-output_at
returns-else-output_at c =
    c.if-output_at.false
    ∙ elim c.if-rows_left.branch [
      | then-rows_left v ↦ elim c.if-left.branch [
        | then-left w ↦
            form-output _ _ _ _ _ _ _ _ _ _ (rw (text_from c.args.self.now.case.now c.args.end) at c.pevzoncs_write-number.ensures.0) refl _ c.left.ensures w.if-left.true _ w.rows_left.ensures (sym w.value-is ∙ v.if-rows_left.true) _ v.output_at.ensures
            (sym v.value-is ∙ c.if-output_at.false)
        | else-left w ↦ let e : ◌≡◌ {A = Bool} true false = sym v.if-rows_left.true ∙ w.value-is ∙ w.if-left.false in cc
      ]
      | else-rows_left v ↦ elim c.if-left.branch [
        | then-left w ↦
            form-rows _ _ _ _ _ _ _ _ _ _ (rw (text_from c.args.self.now.case.now c.args.end) at c.pevzoncs_write-number.ensures.0) refl _ c.left.ensures w.if-left.true _ w.rows_left.ensures (sym w.value-is ∙ v.if-rows_left.false)
        | else-left w ↦ form-answer _ _ _ _ _ _ _ _ _ _ (rw (text_from c.args.self.now.case.now c.args.end) at c.pevzoncs_write-number.ensures.0) refl _ c.left.ensures w.if-left.false
      ]
    ]
