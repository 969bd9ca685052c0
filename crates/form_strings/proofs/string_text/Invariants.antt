use Rattle.std.proofs.Common.{◌-◌, ◌≤◌, length, drop}
use Rattle.chars.specs.Utf8.{decode}
use Rattle.lexer.specs.Tokens.{unescape}
use Rattle.language.specs.Plain.{escaped_text}
use Rattle.form_strings.proofs.Chain.{Goes}
use Rattle.form_strings.proofs.Strings.{value_from, ClosedFrom}
use Rattle.form_strings.proofs.string_text.Given as goal

-- what the characters left give, escaped again, goes behind what is written
abbrev pub invariant-loop-c : goal.invariant-loop-c
invariant-loop-c l = record {
  within : l.i ≤ length l.part;
  closed : ClosedFrom l.slash (decode (drop l.i l.part));
  goes : Goes (escaped_text (value_from l.slash (decode (drop l.i l.part)))) l.out (escaped_text (unescape (decode l.part))) l.fn.out;
}

abbrev pub decreases-loop-c : goal.decreases-loop-c
decreases-loop-c l = length l.part - l.i
