-- The loop's invariant: the run ends where it ends from the start.
use Rattle.std.proofs.Common.{◌≡◌, ◌+◌, ◌-◌, length, drop}
use Rattle.chars.specs.Utf8.{sizes, decode}
use Rattle.lexer.specs.Tokens.{is_word_continue, run}
use Rattle.lexer.proofs.scan.word_end.Given as goal

abbrev pub invariant-loop-c : goal.invariant-loop-c
invariant-loop-c l = l.i + sizes (run is_word_continue (decode (drop l.i l.text))) ≡ l.fn.at + sizes (run is_word_continue (decode (drop l.fn.at l.text)))

abbrev pub decreases-loop-c : goal.decreases-loop-c
decreases-loop-c l = length l.text - l.i
