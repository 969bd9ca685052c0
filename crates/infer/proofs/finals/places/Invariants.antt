use Rattle.tokens.specs.Listed.{tokens_of}
use Rattle.infer.proofs.SectionLaws.{Placing}
use Rattle.infer.proofs.finals.places.Given as goal

abbrev pub invariant-loop-x : goal.invariant-loop-x
invariant-loop-x l = Placing (tokens_of l.tokens) l.line l.x l.out l.fn.out
