-- Describes the code: a run in the terms of crate running. Names are places of the text, and heads are kept for three tapes.
use Rattle.std.specs.Prelude.{ℕ, List}
use Rattle.language.specs.Agreement.{characters_at}
use Rattle.running.specs.Tape.{Configuration}
use Rattle.running.specs.Run as Run
use Rattle.runner_answer.specs.Answer.{stop_in}
use Rattle.runner_tapes.specs.Shown.{heads_of}
use Rattle.runner_loop.specs.declared.Standing.{Standing}
use Rattle.runner_loop.specs.declared.Ended.{Ended}

-- a machine of so many tapes at work: the name of its state, its heads, and all cells lent
abbrev pub configuration_of : List ℕ → ℕ → Standing → List ℕ → Configuration
configuration_of text tapes s cells = record { state = characters_at text s.state; heads = heads_of tapes s.heads; cells = cells }

-- how a run ended
abbrev pub ended_of : List ℕ → ℕ → Ended → List ℕ → Run.Ended
ended_of text tapes e cells = record { stop = stop_in e.stop; steps = e.steps; last = configuration_of text tapes e.last cells }
