use Prim.Native.Nat.{◌-◌}
use Rattle.assembler.proofs.SurveyLaws.{Surveying}
use Rattle.assembler.proofs.survey.survey.Given as goal

abbrev pub invariant-loop-at : goal.invariant-loop-at
invariant-loop-at l = Surveying l.tokens.count l.tokens.words.now l.fn.first l.first l.tally l.failures.count l.names.count l.wrong.count l.at

abbrev pub decreases-loop-at : goal.decreases-loop-at
decreases-loop-at l = l.tokens.count - l.at
