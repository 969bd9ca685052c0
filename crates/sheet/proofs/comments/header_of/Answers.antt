-- The definition makes the same tests.
use Rattle.std.proofs.Common.{not, ap, ◌∙◌}
use Rattle.sheet.proofs.CommentLaws.{header_low, header_high, header-later, header-declared, header-first}
use Rattle.sheet.proofs.comments.header_of.Goals as goal
use Rattle.sheet.proofs.comments.header_of.Goals.{else-t-eq-RULE-via-then-t-eq-RULE+else-is_none, else-t-eq-RULE-via-else-t-eq-RULE}

pub returns-then-t-lt-ITEM : goal.returns-then-t-lt-ITEM
returns-then-t-lt-ITEM c = header_low _ _ _ _ c.if-t-lt-ITEM.true

pub returns-then-t-lt-RULE : goal.returns-then-t-lt-RULE
returns-then-t-lt-RULE c = header-declared _ _ _ _ _ _ c.if-t-lt-ITEM.false c.if-t-lt-RULE.true c.unwrap_or.ensures c.declared.ensures

pub returns-then-is_none : goal.returns-then-is_none
returns-then-is_none c = header-first _ _ _ _ _ c.if-t-eq-RULE.true (c.is_none.ensures ∙ ap not c.if-is_none.true) c.comments.ensures

pub returns-else-t-eq-RULE : goal.returns-else-t-eq-RULE
returns-else-t-eq-RULE c = elim c.else-t-eq-RULE.branch [
  | else-t-eq-RULE-via-then-t-eq-RULE+else-is_none w ↦ header-later _ _ _ _ w.if-t-eq-RULE.true (w.is_none.ensures ∙ ap not w.if-is_none.false)
  | else-t-eq-RULE-via-else-t-eq-RULE w ↦ header_high _ _ _ _ c.if-t-lt-RULE.false w.if-t-eq-RULE.false
]
