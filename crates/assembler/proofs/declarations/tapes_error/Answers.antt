use Rattle.diag.proofs.Appending.{appends_as, appends_nothing}
use Rattle.assembler.proofs.DeclarationLaws.{tapes-other, tapes_few, tapes_many}
use Rattle.assembler.proofs.declarations.tapes_error.Goals as goal

pub returns-then-v-gt-MAX_TAPES : goal.returns-then-v-gt-MAX_TAPES
returns-then-v-gt-MAX_TAPES c = appends_as _ _ _ _ c.append.ensures (tapes_many _ _ _ c.known.ensures _ c.at-v.ensures _ _ c.if-known.true c.if-v-gt-MAX_TAPES.true c.span_of.ensures c.error.ensures)

pub returns-else-v-gt-MAX_TAPES : goal.returns-else-v-gt-MAX_TAPES
returns-else-v-gt-MAX_TAPES c = appends_nothing _ _ (tapes_few _ _ _ c.known.ensures _ c.at-v.ensures c.if-known.true c.if-v-gt-MAX_TAPES.false)

pub returns-else-known : goal.returns-else-known
returns-else-known c = appends_nothing _ _ (tapes-other _ _ _ c.known.ensures c.if-known.false)
