-- The tapes are made blank, and the machine starts on them.
use Rattle.std.proofs.Common.{refl, ◌∙◌}
use Rattle.runner_loop.proofs.Content.{head_says}
use Rattle.runner_loop.proofs.Starts.{are_blank, starts_there}
use Rattle.runner_loop.proofs.begin.Goals as goal

pub begin_on_blanks-requires-clause-blank : goal.begin_on_blanks-requires-clause-blank
begin_on_blanks-requires-clause-blank c = are_blank _ _ _ _ _ refl c.blank_tapes.ensures c.blank_tapes.auto.cells

pub returns-clause-start : goal.returns-clause-start
returns-clause-start c =
    let says = head_says _ c.requires.text _ c.requires.head in
    c.begin_on_blanks.ensures.start
    ∙ starts_there _ _ _ _ _ refl c.blank_tapes.ensures c.blank_tapes.auto.cells _ says.tapes says.blank
