use Rattle.std.proofs.Common.{arith}
use Rattle.infer_symbols.proofs.CodeLaws.{cleared}
use Rattle.infer_symbols.proofs.codes.Codes.new.Goals as goal

pub returns-clause-sound : goal.returns-clause-sound
returns-clause-sound c = record { low = omega arith; hints = cleared c.hints-hints.result c.args.row.now _ c.saturating_sub-start.ensures _ (c.fill.ensures.after (λ _ e. e)) }
