-- `lexer::scan::is_whitespace` meets its contract: ASCII by the table, as one computed test says.
use Rattle.std.proofs.Common.{rules, ap, sym}
use Rattle.lexer.specs.Tokens.{is_whitespace}
use Rattle.lexer.proofs.Leads.{blank_in, blank_out}
use Rattle.lexer.proofs.scan.is_whitespace.Goals as goal

pub returns-in-13 : goal.returns-in-13
returns-in-13 c = search (rules, blank_in)

pub returns-in_default : goal.returns-in_default
returns-in_default c = search (rules, blank_out)

pub returns-then-c-eq32 : goal.returns-then-c-eq32
unfolding is_whitespace
returns-then-c-eq32 c = sym (ap is_whitespace c.if-c-eq32.true)
