-- A rule of the right arity leaves the answer to those behind it.
use Rattle.std.proofs.Common.{◌≡◌, ◌-◌}
use Rattle.language.specs.Agreement.{records}
use Rattle.runner_fit.specs.Tests.{same_arity}
use Rattle.runner_fit.proofs.has_arity.Given as goal

-- the rules that are left have the answer of all
abbrev pub invariant-loop : goal.invariant-loop
invariant-loop l = same_arity l.tapes (records (l.n - l.counter) l.rest) ≡ same_arity l.tapes (records l.n l.rules)
