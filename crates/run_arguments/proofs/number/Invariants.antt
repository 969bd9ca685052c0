-- The value so far and the digits that are left make up the number.
use Rattle.std.proofs.Common.{◌≡◌, ◌<◌, drop}
use Rattle.run_arguments.specs.Arguments.{number_of}
use Rattle.run_arguments.proofs.Digits.{read_from}
use Rattle.run_arguments.proofs.number.Given as goal

-- the digits that are left, behind the number so far, are the number
abbrev pub invariant-loop-digit : goal.invariant-loop-digit
invariant-loop-digit l = record {
  fits : l.value < 18446744073709551616;
  all : read_from l.value (drop l.digit-index l.digits) ≡ number_of l.digits;
}
