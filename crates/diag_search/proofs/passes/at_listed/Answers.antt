use mathlib.Core.Path.{ap}
use Rattle.tokens.specs.Listed.{tokens_of}
use Rattle.assembler.proofs.PartLaws.{part-names, part-kept}
use Rattle.assembler.proofs.FirstLines.{asked_is}
use Rattle.diag_search.proofs.Parts.{listed-marked}
use Rattle.diag_search.proofs.FinalSteps.{listed-names, newline_stepped, listed-stepped}
use Rattle.diag_search.proofs.passes.at_listed.Goals as goal

pub returns-then-at-eq-NEWLINE : goal.returns-then-at-eq-NEWLINE
returns-then-at-eq-NEWLINE c = newline_stepped c.args.text.now c.args.work.now c.args.s c.requires.0 c.requires.1 _ _ c.requires.2 c.at.ensures c.if-at-eq-NEWLINE.true c.onward.ensures

pub new-requires-clause-interned : goal.new-requires-clause-interned
new-requires-clause-interned c = part-names _ _ _ _ c.requires.0.laid _ _ _ _ c.split_at_mut-front.ensures.front c.split_at_mut-front.ensures.back c.split_at.ensures.front c.split_at.ensures.back c.args.text.now (listed-names c.args.text.now c.args.work.now c.args.s c.requires.0 c.requires.1 c.requires.2)

pub returns : goal.returns
returns c = listed-stepped c.args.text.now c.args.work.now c.args.s c.requires.0 c.requires.1 _ _ _ _ c.requires.2 c.at.ensures c.if-at-eq-NEWLINE.false (asked_is _ _ c.line.ensures c.is_some-declared.ensures) (part-kept _ _ _ _ c.requires.0.laid _ _ _ _ c.split_at_mut-front.ensures.front c.split_at_mut-front.ensures.back c.split_at.ensures.front c.split_at.ensures.back _ c.listed.auto.marks) c.listed.ensures.search (listed-marked _ _ _ _ c.requires.0.laid _ _ _ _ c.split_at_mut-front.ensures.front c.split_at_mut-front.ensures.back c.split_at.ensures.front c.split_at.ensures.back c.new.result c.args.text.now c.new.ensures.text (ap tokens_of c.new.ensures.tokens) c.new.ensures.firsts _ c.listed.auto.marks _ _ _ c.listed.ensures.taken)
