use Rattle.std.proofs.Common.{arith}
use Rattle.assembler.proofs.FirstLines.{there_is, there-inside, none-outside}
use Rattle.infer.proofs.NameLaws.{named_none, named_as}
use Rattle.infer.proofs.WalkLaws.{start_none, start_there}
use Rattle.infer.proofs.names.Names.start_name.Goals as goal

pub returns-in-Some : goal.returns-in-Some
returns-in-Some c = named_as (start_there _ _ _ (there_is _ _ c.line.ensures c.in-Some.is) (omega (arith, there-inside _ _ c.line.ensures c.in-Some.is, c.len.ensures.tokens))) c.name.ensures

pub returns-in_default : goal.returns-in_default
returns-in_default c = named_as (start_none _ _ (omega (arith, none-outside _ _ c.line.ensures c.in_default.is, c.len.ensures.tokens))) named_none
