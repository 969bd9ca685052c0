-- `lexer::scan::is_word_continue` meets its contract: ASCII by the table, as one computed test says.
use Rattle.std.proofs.Common.{rules}
use Rattle.lexer.proofs.Leads.{continue_lead}
use Rattle.lexer.proofs.scan.is_word_continue.Goals as goal

pub returns-then-c-lt128 : goal.returns-then-c-lt128
returns-then-c-lt128 c = search (rules, continue_lead)
