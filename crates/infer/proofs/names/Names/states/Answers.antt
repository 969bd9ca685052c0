use Rattle.std.proofs.Common.{arith, sym, ◌∙◌}
use Rattle.assembler.proofs.FirstLines.{asked-inside, asked-outside}
use Rattle.sheet.proofs.Puts.{puts_as}
use Rattle.infer.proofs.SectionLaws.{states_declared, states_inferred, marks_declared, marks_inferred}
use Rattle.infer.proofs.names.Names.states.Goals as goal

pub returns-then-is_some : goal.returns-then-is_some
returns-then-is_some c = record {
  puts = puts_as (states_declared _ _ _ _ (omega (arith, asked-inside _ _ c.line.ensures c.is_some.ensures c.if-is_some.true, c.len.ensures.tokens))) c.names_in.ensures.puts;
  marked = c.names_in.ensures.marked ∙ sym (marks_declared _ _ _ _ (omega (arith, asked-inside _ _ c.line.ensures c.is_some.ensures c.if-is_some.true, c.len.ensures.tokens)));
}

pub returns : goal.returns
returns c = record {
  puts = puts_as (states_inferred _ _ _ _ (omega (arith, asked-outside _ _ c.line.ensures c.is_some.ensures c.if-is_some.false, c.len.ensures.tokens))) c.inferred.ensures.puts;
  marked = c.inferred.ensures.marked ∙ sym (marks_inferred _ _ _ _ (omega (arith, asked-outside _ _ c.line.ensures c.is_some.ensures c.if-is_some.false, c.len.ensures.tokens)));
}
