-- The records that are left go on from what the row says so far.
use Rattle.runner_rules.proofs.Records.{Marking}
use Rattle.runner_rules.proofs.firsts.of_rules.Given as goal

-- the records from here on are left
abbrev pub invariant-loop-i : goal.invariant-loop-i
invariant-loop-i l = Marking l.numbers l.words l.count l.fn.row l.row l.i l.at
