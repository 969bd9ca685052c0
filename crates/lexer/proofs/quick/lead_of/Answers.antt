-- `lexer::quick::lead_of` meets its contract: one computed test says that the table is right.
use Rattle.std.proofs.Common.{refl}
use Rattle.lexer.specs.Quick.{leads}
use Rattle.lexer.proofs.Leads.{lead_found}
use Rattle.lexer.proofs.quick.lead_of.Goals as goal

pub returns : goal.returns
unfolding leads
returns c = lead_found _ _ _ refl c.requires c.from.ensures
