use Rattle.infer_symbols.proofs.Noting.{left_like}
use Rattle.infer_symbols.proofs.InputLaws.{spell_none, spell_ends, spell_on, from_falls}
use Rattle.infer_symbols.proofs.input.note_string.Goals as goal

pub returns-in_default : goal.returns-in_default
returns-in_default c = spell_none _ _ _ _ _ _ (left_like c.unseen_from-j.ensures.same c.loop-c.invariant) _ c.glyph_at.ensures.found c.in_default.is

pub returns-then-ends_at : goal.returns-then-ends_at
returns-then-ends_at c = spell_ends _ _ _ _ _ _ (left_like c.unseen_from-j.ensures.same c.loop-c.invariant) _ c.glyph_at.ensures.found _ _ c.in-Some.is _ c.ends_at.ensures c.if-ends_at.true

pub loop-c-smaller : goal.loop-c-smaller
loop-c-smaller c = from_falls c.args.text.now _ _ c.unseen_from-j.ensures.on _ c.glyph_at.ensures.found _ _ c.in-Some.is

pub loop-c-preserved : goal.loop-c-preserved
loop-c-preserved c =
    spell_on _ _ _ _ _ _ (left_like c.unseen_from-j.ensures.same c.loop-c.invariant) _ c.glyph_at.ensures.found _ _ c.in-Some.is _ c.ends_at.ensures c.if-ends_at.false c.note_char.ensures _ c.escapes_next-escaped.ensures
