use Rattle.assembler.proofs.FinalLaws.{is_word_lem, final-step, final_skip}
use Rattle.assembler.proofs.finals.Names.final_at.Goals as goal

pub final_name-requires-clause-word : goal.final_name-requires-clause-word
final_name-requires-clause-word c = is_word_lem c.args.self.now _ c.requires.inside _ c.at.ensures _ c.is_state.ensures c.if-is_state.true

pub returns-then-is_state-clause-listed : goal.returns-then-is_state-clause-listed
returns-then-is_state-clause-listed c = final-step c.args.self.now _ c.requires.inside _ c.at.ensures _ c.is_state.ensures _ _ _ _ _ c.if-is_state.true c.final_name.ensures.listed

pub returns-else-is_state-clause-listed : goal.returns-else-is_state-clause-listed
returns-else-is_state-clause-listed c = final_skip c.args.self.now _ c.requires.inside _ c.at.ensures _ c.is_state.ensures _ _ _ c.if-is_state.false
