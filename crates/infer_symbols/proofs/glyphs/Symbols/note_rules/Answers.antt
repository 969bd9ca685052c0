use Rattle.std.proofs.Common.{arith, refl}
use Rattle.assembler.specs.Entries.{entries}
use Rattle.infer_symbols.proofs.Noting.{yet_start}
use Rattle.infer_symbols.proofs.GlyphLaws.{rules-next, rules-end}
use Rattle.infer_symbols.proofs.glyphs.Symbols.note_rules.Goals as goal

pub loop-e-init : goal.loop-e-init
unfolding entries
loop-e-init c = yet_start refl refl

pub loop-e-preserved : goal.loop-e-preserved
loop-e-preserved c = rules-next _ _ c.loop-e.invariant (omega (arith, c.loop-e-test.true, c.len.ensures.tokens)) c.at.ensures c.next_line-e.ensures c.note_rule.ensures

pub returns : goal.returns
returns c = rules-end _ _ c.loop-e.invariant (omega (arith, c.loop-e-test.false, c.len.ensures.tokens))
