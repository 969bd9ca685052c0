-- `lexer::scan::space_by_class` meets its contract: its class tells it.
use Rattle.std.proofs.Common.{◌∙◌}
use Rattle.lexer.proofs.Scans.{space_same}
use Rattle.lexer.proofs.scan.space_by_class.Goals as goal

pub returns : goal.returns
returns c = c.eq.ensures ∙ space_same _ _ c.class_of.ensures
