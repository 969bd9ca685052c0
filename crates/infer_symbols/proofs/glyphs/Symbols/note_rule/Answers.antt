use Rattle.infer_symbols.proofs.GlyphLaws.{rule-all, rule-none}
use Rattle.infer_symbols.proofs.glyphs.Symbols.note_rule.Goals as goal

pub returns-then-t-eq-RULE : goal.returns-then-t-eq-RULE
returns-then-t-eq-RULE c = rule-all _ _ _ c.at-t.ensures c.if-t-eq-RULE.true _ c.at-q.ensures c.note_parts.ensures

pub returns-else-t-eq-RULE : goal.returns-else-t-eq-RULE
returns-else-t-eq-RULE c = rule-none _ _ _ c.at-t.ensures _ c.if-t-eq-RULE.false
