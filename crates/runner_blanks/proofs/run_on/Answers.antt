-- The tapes are cleared, the machine runs on them as on the cells before, and what it cannot have reached is blank behind it.
use Rattle.std.proofs.Common.{length, refl, sym, ap, ◌∙◌, arith}
use Rattle.runner_loop.proofs.Content.{head_says}
use Rattle.runner_loop.proofs.Starts.{are_blank, runs_there}
use Rattle.runner_blanks.proofs.Far.{known_behind}
use Rattle.runner_blanks.proofs.run_on.Goals as goal

pub run_entry-ended-requires-clause-blank : goal.run_entry-ended-requires-clause-blank
run_entry-ended-requires-clause-blank c = are_blank _ _ _ _ _ refl c.clear.ensures c.clear.auto.cells

pub returns-clause-ended : goal.returns-clause-ended
returns-clause-ended c =
    let says = head_says _ c.requires.read.is_admitted _ c.requires.read.head_is in
    c.run_entry-ended.ensures ∙ runs_there _ _ _ _ _ refl c.clear.ensures c.clear.auto.cells _ says.tapes says.blank _

pub returns-clause-known : goal.returns-clause-known
returns-clause-known c =
    let says = head_says _ c.requires.read.is_admitted _ c.requires.read.head_is in
    let ran = c.run_entry-ended.ensures ∙ runs_there _ _ _ _ _ refl c.clear.ensures c.clear.auto.cells _ says.tapes says.blank _ in
    let k = c.behind.ensures in
    known_behind _ c.args.cells.now c.requires.fit c.args.left c.behind.result _ (ap (λ e. e.last.cells) ran)
    (c.run_entry-ended.auto.cells ∙ c.clear.auto.cells) (k.tapes ∙ sym says.tapes) (k.blank ∙ sym says.blank)
    (omega (arith, k.steps, ap (λ e. e.steps) ran)) (omega (arith, k.input, ap length says.input))
