use mathlib.Core.Path.{refl, ap}
use Rattle.tokens.specs.Listed.{tokens_of}
use Rattle.assembler.proofs.PartLaws.{part-names, part-kept}
use Rattle.diag_search.proofs.Parts.{states-marked}
use Rattle.diag_search.proofs.FinalSteps.{finals-names, finals-entered}
use Rattle.diag_search.proofs.passes.enter_finals.Goals as goal

pub new-requires-clause-interned : goal.new-requires-clause-interned
new-requires-clause-interned c = part-names _ _ _ _ c.requires.0.laid _ _ _ _ c.split_at_mut-front.ensures.front c.split_at_mut-front.ensures.back c.split_at.ensures.front c.split_at.ensures.back c.args.text.now (finals-names c.args.text.now c.args.work.now c.args.s c.requires.0 c.requires.3)

pub returns : goal.returns
returns c = finals-entered c.args.text.now c.args.work.now c.args.s c.requires.0 _ _ _ _ c.requires.1 c.requires.2 refl refl (part-kept _ _ _ _ c.requires.0.laid _ _ _ _ c.split_at_mut-front.ensures.front c.split_at_mut-front.ensures.back c.split_at.ensures.front c.split_at.ensures.back _ c.mark_states.auto.marks) (states-marked _ _ _ _ c.requires.0.laid _ _ _ _ c.split_at_mut-front.ensures.front c.split_at_mut-front.ensures.back c.split_at.ensures.front c.split_at.ensures.back c.new.result c.args.text.now c.new.ensures.text (ap tokens_of c.new.ensures.tokens) c.new.ensures.firsts _ c.mark_states.auto.marks _ c.mark_states.ensures) c.onward.ensures
