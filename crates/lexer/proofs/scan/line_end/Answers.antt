-- `lexer::scan::line_end` meets its contract: one more character of the line.
use Rattle.std.proofs.Common.{rules}
use Rattle.lexer.proofs.Scans.{lined_white, lined_other}
use Rattle.lexer.proofs.scan.line_end.Goals as goal

pub loop-c-preserved-then-not-is_whitespace : goal.loop-c-preserved-then-not-is_whitespace
loop-c-preserved-then-not-is_whitespace c = search (rules, lined_other)

pub loop-c-preserved : goal.loop-c-preserved
loop-c-preserved c = search (rules, lined_white)
