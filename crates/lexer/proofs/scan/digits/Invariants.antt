-- The loop's invariant: the digits end where they end from the start, and v stands for those passed.
use Rattle.std.proofs.Common.{◌≡◌, ◌+◌, ◌-◌, length, drop}
use Rattle.chars.specs.Utf8.{sizes, decode}
use Rattle.lexer.specs.Tokens.{is_ascii_digit, run}
use Rattle.lexer.proofs.Scans.{Counted}
use Rattle.lexer.proofs.scan.digits.Given as goal

abbrev pub invariant-loop-c : goal.invariant-loop-c
invariant-loop-c l = (l.i + sizes (run is_ascii_digit (decode (drop l.i l.text))) ≡ l.fn.at + sizes (run is_ascii_digit (decode (drop l.fn.at l.text)))) × Counted l.text l.fn.at l.i l.v

abbrev pub decreases-loop-c : goal.decreases-loop-c
decreases-loop-c l = length l.text - l.i
