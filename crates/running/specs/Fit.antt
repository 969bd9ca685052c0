-- Describes the code: what the tests 8 to 10 leave of a machine, which is all that its run on so many cells asks of it.
use Rattle.std.specs.Prelude.{ℕ, ◌≤◌, ◌≡◌, true, length}
use Rattle.language.specs.Content.{Content}
use Rattle.running.specs.Tape.{half}
use Rattle.running.specs.Refusals.{has_arity}

-- a machine that may run: one to three tapes, rules of as many, room for a cell on either side of position 0 and for the input
pub record Fit (m : Content) (cells : ℕ) : Type 0 where
  pub some_tape : 1 ≤ m.tapes
  pub few_tapes : m.tapes ≤ 3
  pub arity : has_arity m ≡ true
  pub room : 1 ≤ half cells m.tapes
  pub input_fits : length m.input ≤ half cells m.tapes
