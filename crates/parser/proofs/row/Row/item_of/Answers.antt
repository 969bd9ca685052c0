use Rattle.std.proofs.Common.{rules}
use Rattle.parser.proofs.Rules.{value_high}
use Rattle.parser.proofs.row.Row.item_of.Goals as goal

pub finish-requires : goal.finish-requires
finish-requires c = search (rules, value_high)
