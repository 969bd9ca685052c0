use mathlib.Core.Path.{◌≡◌}
use Rattle.assembler.proofs.Rows.{kind_from}
use Rattle.assembler.proofs.seek.kind_before.Given as goal

abbrev pub invariant-loop-i : goal.invariant-loop-i
invariant-loop-i l = kind_from l.k l.tokens.count l.tokens.words.now l.from l.i ≡ kind_from l.k l.tokens.count l.tokens.words.now l.from l.to
