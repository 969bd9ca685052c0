use Rattle.std.proofs.Common.{rules, refl}
use Rattle.chars.proofs.Laws.{char_falls}
use Rattle.infer_symbols.proofs.InputLaws.{passed_on}
use Rattle.infer_symbols.proofs.input.seen_end.Goals as goal

pub loop-c-smaller : goal.loop-c-smaller
loop-c-smaller c = search (rules, char_falls)

pub loop-c-preserved : goal.loop-c-preserved
loop-c-preserved c = passed_on _ _ _ _ c.loop-c.invariant _ c.glyph_at.ensures.found _ _ c.in-Some.is c.if-c-lt128.false (c.if-not-is_seen.ensures.noted refl)
