use Rattle.std.proofs.Common.{rules}
use Rattle.assembler.proofs.LineLaws.{failed-entered}
use Rattle.assembler.proofs.lines.enter_failed.Goals as goal

pub returns : goal.returns
returns c = search (rules, failed-entered)
