use Rattle.std.proofs.Common.{refl}
use Rattle.infer_symbols.proofs.Noting.{notes_then}
use Rattle.infer_symbols.proofs.InputLaws.{spelled_itself, spelled_backslash, spelled_escape}
use Rattle.infer_symbols.proofs.input.note_char.Goals as goal

pub returns-then-c-ne92 : goal.returns-then-c-ne92
returns-then-c-ne92 c = spelled_itself _ _ c.if-not-escaped.true c.if-c-ne92.true c.note.ensures

pub returns-else-c-ne92 : goal.returns-else-c-ne92
returns-else-c-ne92 c = spelled_backslash _ _ _ c.if-not-escaped.true c.if-c-ne92.false

pub returns-in-Some : goal.returns-in-Some
returns-in-Some c = spelled_escape _ c.if-not-escaped.false c.in-Some.ensures.some c.note-in-Some.ensures

pub returns-in_default : goal.returns-in_default
returns-in_default c = spelled_escape _ c.if-not-escaped.false (c.in_default.ensures.none refl) (notes_then c.note-in_default.ensures c.note-in_default-2.ensures)
