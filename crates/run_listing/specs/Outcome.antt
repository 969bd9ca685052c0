-- Describes the code: what is printed of a machine does not depend on the log, nor on the sheet.
use Rattle.std.specs.Prelude.{ℕ, List, []}
use Rattle.machine.specs.declared.Head.{Head}
use Rattle.language.specs.Outcome.{machine, ReadOutcome}

-- the outcome of a reading that answers a machine
abbrev pub machine_outcome : Head → ReadOutcome (List ℕ)
machine_outcome h = record { reply = machine h; log = []; sheet = [] }
