-- What the characters left give, escaped again, goes behind what is written.
use borrow.Author.Rules.{rules}
use Rattle.chars.proofs.Laws.{char_scalar, char_le, char_falls}
use Rattle.form_strings.proofs.Strings.{text_start, text_goes, text_closes, text_on, text_over, waits_then, waits_else}
use Rattle.form_strings.proofs.string_text.Goals as goal

ruleset laws = (rules, char_scalar, char_le, char_falls, text_start, text_goes, text_closes, text_on, text_over, waits_then, waits_else)

pub loop-c-init : goal.loop-c-init
loop-c-init c = record { within = search rules; closed = text_start _ c.requires; goes = text_goes _ _ }

pub rewritten-requires : goal.rewritten-requires
rewritten-requires c = search laws

pub loop-c-smaller-then-not-slash : goal.loop-c-smaller-then-not-slash
loop-c-smaller-then-not-slash c = search laws

pub loop-c-preserved-then-not-slash : goal.loop-c-preserved-then-not-slash
loop-c-preserved-then-not-slash c = search laws

pub loop-c-smaller : goal.loop-c-smaller
loop-c-smaller c = search laws

pub loop-c-preserved : goal.loop-c-preserved
loop-c-preserved c = search laws

pub returns : goal.returns
returns c = let l = c.loop-c.invariant in text_over _ _ _ c.char_at.ensures.found _ l.closed _ _ _ l.goes c.in_default.is
