use Rattle.assembler_names.proofs.TableLaws.{hashed_none, hashed_is}
use Rattle.assembler_names.proofs.table.Layout.hashed_slot.Goals as goal

pub returns-in_default-clause-value : goal.returns-in_default-clause-value
returns-in_default-clause-value c = hashed_none _ _ _ c.in_default.ensures.cases

pub returns-clause-value : goal.returns-clause-value
returns-clause-value c = hashed_is _ _ _ _ _ _ _ c.in-Some.ensures.cases.0 c.hash.ensures.value c.from.ensures
