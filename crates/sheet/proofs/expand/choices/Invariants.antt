use Rattle.std.proofs.Common.{length}
use Rattle.tokens.specs.Listed.{tokens_of}
use Rattle.sheet.specs.Wheels.{choices_behind}
use Rattle.sheet.proofs.WheelLaws.{Turning}
use Rattle.sheet.proofs.ExpandLaws.{Choosing}
use Rattle.sheet.proofs.expand.choices.Given as goal

-- what is left are the rules of the choices behind the one at which the wheels stand
abbrev pub invariant-choices : goal.invariant-choices
invariant-choices l = Choosing (tokens_of l.tokens) l.blank l.r l.entries l.fn.members l.members l.fn.sheet l.sheet

abbrev pub decreases-choices : goal.decreases-choices
decreases-choices l = length (choices_behind (tokens_of l.tokens) l.entries l.members)

-- the wheels from t on have started again
abbrev pub invariant-loop-t : goal.invariant-loop-t
invariant-loop-t l = Turning (tokens_of l.tokens) l.entries l.initial.members l.members l.t

abbrev pub decreases-loop-t : goal.decreases-loop-t
decreases-loop-t l = l.t
