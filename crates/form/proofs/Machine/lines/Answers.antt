-- The sections stand one after the other, each from its words of the sheet.
use Rattle.std.proofs.Common.{◌∙◌}
use Rattle.form.specs.Machines.{answer_of}
use Rattle.form.proofs.Form.{header_same, trailing_same, rules_same, form-written}
use Rattle.form.proofs.Machine.lines.Goals as goal

pub comment_lines-requires : goal.comment_lines-requires
comment_lines-requires c =
    let m = c.args.self.now in
    rw (c.header.ensures ∙ header_same m c.sections-sheet.result c.sections-sheet.ensures) m.formed.body_part.header_texts

pub rules-requires-2 : goal.rules-requires-2
rules-requires-2 c =
    let m = c.args.self.now in
    rw (c.rules.ensures ∙ rules_same m c.sections-sheet.result c.sections-sheet.ensures) m.formed.body_part.rule_records

pub comment_lines-requires-2 : goal.comment_lines-requires-2
comment_lines-requires-2 c =
    let m = c.args.self.now in
    rw (c.trailing.ensures ∙ trailing_same m c.sections-sheet.result c.sections-sheet.ensures) m.formed.body_part.trailing_texts

pub returns : goal.returns
returns c =
    let m = c.args.self.now in
    let s = c.sections-sheet in
    form-written (answer_of m) _ _ _ _ _ _ _ _ _ (c.header.ensures ∙ header_same m s.result s.ensures) (c.trailing.ensures ∙ trailing_same m s.result s.ensures)
    (c.rules.ensures ∙ rules_same m s.result s.ensures) c.comment_lines.ensures c.head_lines.ensures c.declared_lines.ensures c.rules-2.ensures c.comment_lines-2.ensures
