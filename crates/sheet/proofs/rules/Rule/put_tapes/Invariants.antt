use Rattle.tokens.specs.Listed.{tokens_of}
use Rattle.sheet.proofs.RuleLaws.{Taping}
use Rattle.sheet.proofs.rules.Rule.put_tapes.Given as goal

-- the tapes that are left go behind what is stored
abbrev pub invariant-loop-t : goal.invariant-loop-t
invariant-loop-t l = Taping (tokens_of l.tokens) l.blank l.self l.members l.fn.sheet l.sheet l.t
