-- A blank cell at the end is cut off; at the last that is not, or where none is left, the rest is what is asked for.
use Rattle.std.proofs.Common.{[], sym, ap, ◌∙◌}
use Rattle.std.proofs.lemmas.List.{nil_from_length}
use Rattle.run_lines.specs.Lines.{to_nonblank}
use Rattle.run_lines.proofs.Ends.{last_blank, last_nonblank, to_none}
use Rattle.run_lines.proofs.to_nonblank.Goals as goal

pub loop-last-preserved : goal.loop-last-preserved
loop-last-preserved c =
    let split = c.in-Some.ensures.cases.0 in
    sym (ap (to_nonblank c.args.blank) split ∙ last_blank c.args.blank _ _ c.if-last-blank.false) ∙ c.loop-last.invariant

pub returns-then-last-blank : goal.returns-then-last-blank
returns-then-last-blank c =
    let split = c.in-Some.ensures.cases.0 in
    split ∙ sym (ap (to_nonblank c.args.blank) split ∙ last_nonblank c.args.blank _ _ c.if-last-blank.true) ∙ c.loop-last.invariant

pub returns-in_default : goal.returns-in_default
returns-in_default c =
    let empty = nil_from_length c.loop-last.rest.now (c.in_default.ensures.cases) in
    empty ∙ sym (ap (to_nonblank c.args.blank) empty ∙ to_none c.args.blank) ∙ c.loop-last.invariant
