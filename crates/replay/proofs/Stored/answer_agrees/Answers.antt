-- Answers for `replay::answer_agrees`: the outcome that the definition compares is what `read` gives, and work that it must leave
-- holds the front of `before`.
use Rattle.std.proofs.Common.{◌≡◌, Bool, true, false, refl, sym, ◌∙◌}
use Rattle.replay.proofs.Laws.{agrees-answer, agrees-rows, agrees-work}
use Rattle.replay.proofs.Stored.answer_agrees.Goals as goal
use Rattle.replay.proofs.Stored.answer_agrees.Goals.{then-left, else-left}

pub returns-then-rows_left : goal.returns-then-rows_left
returns-then-rows_left c = elim c.if-left.branch [
  | then-left w ↦
      agrees-work _ _ c.read.result _ _ _ _ c.answer_words-answer.ensures c.read.ensures.0 _ c.left.ensures w.if-left.true _ w.rows_left.ensures (sym w.value-is ∙ c.if-rows_left.true) _ _ _ _
      c.work_left.ensures refl c.read.ensures.1 c.requires.soiled
  | else-left w ↦ let e : ◌≡◌ {A = Bool} true false = sym c.if-rows_left.true ∙ w.value-is ∙ w.if-left.false in cc
]

pub returns-else-rows_left : goal.returns-else-rows_left
returns-else-rows_left c =
    c.if-rows_left.false
    ∙ elim c.if-left.branch [
      | then-left w ↦
          agrees-rows _ _ c.read.result _ _ _ _ c.answer_words-answer.ensures c.read.ensures.0 _ c.left.ensures w.if-left.true _ w.rows_left.ensures (sym w.value-is ∙ c.if-rows_left.false)
      | else-left w ↦ agrees-answer _ _ c.read.result _ _ _ _ c.answer_words-answer.ensures c.read.ensures.0 _ c.left.ensures w.if-left.false
    ]
