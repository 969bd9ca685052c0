-- Answers for `lexer::quick::ascii_lead`: the table has the lead of an ASCII character.
use Rattle.lexer.proofs.Leads.{ascii_at}
use Rattle.lexer.proofs.quick.ascii_lead.Goals as goal

pub returns-in-Some : goal.returns-in-Some
returns-in-Some c = ascii_at _ _ _ _ _ c.in-Some.ensures.lookup.3.0 (c.in-Some.ensures.lookup.3.1 0) c.if-b-lt128.true c.from.ensures c.lead_of.ensures
