use Rattle.std.proofs.Common.{◌-◌, ◌≡◌, ◌≤◌, ◌<◌, ◌^◌, length, drop}
use Rattle.emit.specs.Decimal.{digits_from, decimal}
use Rattle.emit.proofs.Output.decimal.Given as goal

-- the digits of what is left, in front of those in the row, are the number's
abbrev pub invariant-loop-left : goal.invariant-loop-left
invariant-loop-left l = record {
  first : 1 ≤ l.i;
  last : l.i ≤ 20;
  long : length l.digits ≡ 20;
  fits : l.left < 10 ^ l.i;
  digits : digits_from (l.i - 1) l.left (drop l.i l.digits) ≡ decimal l.n;
}

abbrev pub decreases-loop-left : goal.decreases-loop-left
decreases-loop-left l = l.i
