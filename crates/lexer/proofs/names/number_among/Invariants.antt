-- What is left of the table gives the name the number that the whole gives it.
use Rattle.std.proofs.Common.{◌≡◌, drop}
use Rattle.lexer.specs.Keywords.{number_in}
use Rattle.lexer.proofs.names.number_among.Given as goal

abbrev pub invariant-loop-number : goal.invariant-loop-number
invariant-loop-number g l = number_in (drop l.number-index l.keywords) l.name ≡ number_in l.keywords l.name
