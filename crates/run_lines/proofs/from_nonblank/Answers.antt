-- A blank cell in front is passed; at the first that is not, or where none is left, the rest is what is asked for.
use Rattle.std.proofs.Common.{[], sym, ap, ◌∙◌}
use Rattle.std.proofs.lemmas.List.{nil_from_length}
use Rattle.run_lines.specs.Lines.{from_nonblank}
use Rattle.run_lines.proofs.Ends.{first_blank, first_nonblank, from_none}
use Rattle.run_lines.proofs.from_nonblank.Goals as goal

pub loop-first-preserved : goal.loop-first-preserved
loop-first-preserved c =
    let split = c.in-Some.ensures.cases.0 in
    sym (ap (from_nonblank c.args.blank) split ∙ first_blank c.args.blank _ _ c.if-first-blank.false) ∙ c.loop-first.invariant

pub returns-then-first-blank : goal.returns-then-first-blank
returns-then-first-blank c =
    let split = c.in-Some.ensures.cases.0 in
    split ∙ sym (ap (from_nonblank c.args.blank) split ∙ first_nonblank c.args.blank _ _ c.if-first-blank.true) ∙ c.loop-first.invariant

pub returns-in_default : goal.returns-in_default
returns-in_default c =
    let empty = nil_from_length c.loop-first.rest.now (c.in_default.ensures.cases) in
    empty ∙ sym (ap (from_nonblank c.args.blank) empty ∙ from_none c.args.blank) ∙ c.loop-first.invariant
