use Rattle.std.proofs.Common.{arith, sym, ap, ◌∙◌}
use Rattle.std.specs.Prelude.{Some}
use Rattle.assembler_names.proofs.TableLaws.{own_none, own_is, own_past}
use Rattle.assembler_names.proofs.table.Layout.own_slot.Goals as goal

pub returns-in-Some : goal.returns-in-Some
returns-in-Some c = ap (λ x. Some x) c.from-in-Some.ensures ∙ own_is _ _ c.in-Some.c (sym c.in-Some.is ∙ c.letter.ensures) (omega (arith, c.from.ensures, c.if-from-self.true))

pub returns-in_default : goal.returns-in_default
returns-in_default c = own_past _ _ c.in-Some.c (sym c.in-Some.is ∙ c.letter.ensures) (omega (arith, c.from.ensures, c.if-from-self.false))

pub returns-in_default-2 : goal.returns-in_default-2
returns-in_default-2 c = own_none _ _ (sym c.in_default.is ∙ c.letter.ensures)
