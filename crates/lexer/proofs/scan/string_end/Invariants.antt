-- The loop's invariant: the string ends where it ends from the start.
use Rattle.std.proofs.Common.{◌≡◌, ◌-◌, false, length, drop}
use Rattle.chars.specs.Utf8.{decode}
use Rattle.lexer.specs.Places.{string_end}
use Rattle.lexer.proofs.scan.string_end.Given as goal

abbrev pub invariant-loop-c : goal.invariant-loop-c
invariant-loop-c l = string_end l.escaped l.i (decode (drop l.i l.text)) ≡ string_end false l.fn.at (decode (drop l.fn.at l.text))

abbrev pub decreases-loop-c : goal.decreases-loop-c
decreases-loop-c l = length l.text - l.i
