use Rattle.assembler.proofs.FinalLaws.{state-inside, state-step, state_skip}
use Rattle.assembler.proofs.finals.Names.mark_state.Goals as goal

pub bounds-marks-self : goal.bounds-marks-self
bounds-marks-self c = state-inside c.args.self.now _ c.requires.inside _ c.at.ensures _ c.is_state.ensures c.if-is_state.true _ c.requires.room

pub returns-then-is_state : goal.returns-then-is_state
returns-then-is_state c = state-step c.args.self.now _ c.requires.inside _ c.at.ensures _ c.is_state.ensures c.if-is_state.true _ c.requires.room

pub returns-else-is_state : goal.returns-else-is_state
returns-else-is_state c = λ qs p. state_skip c.args.self.now _ c.requires.inside _ c.at.ensures _ c.is_state.ensures c.if-is_state.false _ qs qs p
