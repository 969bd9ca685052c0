-- The value from here on is still to be noted.
use Rattle.std.proofs.Common.{◌-◌, false, length, drop}
use Rattle.chars.specs.Utf8.{decode}
use Rattle.lexer.specs.Places.{rest}
use Rattle.infer_symbols.specs.Input.{spelled}
use Rattle.infer_symbols.proofs.Noting.{Left}
use Rattle.infer_symbols.proofs.input.note_string.Given as goal

abbrev pub invariant-loop-c : goal.invariant-loop-c
invariant-loop-c l = Left (spelled l.escaped (decode (drop l.i l.text))) l.codes (spelled false (rest l.text l.fn.at)) l.fn.codes

abbrev pub decreases-loop-c : goal.decreases-loop-c
decreases-loop-c l = length l.text - l.i
