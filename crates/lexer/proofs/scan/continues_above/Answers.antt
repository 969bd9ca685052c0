-- `lexer::scan::continues_above` meets its contract: its class tells it.
use Rattle.lexer.proofs.Scans.{above_in, above_out}
use Rattle.lexer.proofs.scan.continues_above.Goals as goal

pub returns-in-Letter : goal.returns-in-Letter
returns-in-Letter c = above_in _ _ c.class_of.ensures c.requires c.in-Letter.is

pub returns-in_default : goal.returns-in_default
returns-in_default c = above_out _ _ c.class_of.ensures c.requires c.in_default.not-Letter c.in_default.not-Digit
