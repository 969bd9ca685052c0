-- The leading lines, the two sides, the own comment and the line feed stand one after the other.
use Rattle.form_rules.proofs.RuleWords.{lines-written}
use Rattle.form_rules.proofs.Rule.lines.Goals as goal

pub returns : goal.returns
returns c =
    lines-written _ _ _ _ c.leading_count.ensures c.leading-leading.ensures _ _ _ _ _ _ _ c.comment.ensures c.comment_lines.ensures c.left.ensures c.right.ensures
    c.own_comment.ensures c.bytes.ensures
