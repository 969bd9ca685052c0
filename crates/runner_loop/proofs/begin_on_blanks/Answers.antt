-- A machine that is not refused starts on blank tapes as the definition has it.
use mathlib.Core.Path.{refl}
use Rattle.runner_loop.proofs.Starts.{few_tapes, start_is, start_works}
use Rattle.runner_loop.proofs.begin_on_blanks.Goals as goal

pub start-requires : goal.start-requires
start-requires c = few_tapes _ c.requires.text _ c.requires.head _ c.requires.fit

pub returns-clause-start : goal.returns-clause-start
returns-clause-start c =
    start_is _ c.requires.text _ c.requires.head _ c.requires.fit _ c.half-half.ensures _ refl c.start.ensures
    _ _ c.requires.blank c.put_input.ensures

pub returns-clause-work : goal.returns-clause-work
returns-clause-work c =
    start_works _ c.requires.text _ c.requires.head _ c.requires.fit _ c.half-half.ensures _ refl c.start.ensures
