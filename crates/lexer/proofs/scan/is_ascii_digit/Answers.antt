-- `lexer::scan::is_ascii_digit` meets its contract: ASCII by the table, as one computed test says, and no other is a digit.
use Rattle.std.proofs.Common.{sym, ◌∙◌}
use borrow.Author.Tests.{le-ltb}
use Rattle.lexer.proofs.Leads.{digit_lead, digit_above}
use Rattle.lexer.proofs.scan.is_ascii_digit.Goals as goal

pub returns-then-c-lt128 : goal.returns-then-c-lt128
returns-then-c-lt128 c = digit_lead _ _ c.if-c-lt128.true c.lead_of.ensures

pub returns-else-c-lt128 : goal.returns-else-c-lt128
returns-else-c-lt128 c = le-ltb _ _ c.if-c-lt128.false ∙ sym (digit_above _ c.if-c-lt128.false)
