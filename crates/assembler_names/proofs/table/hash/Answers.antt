use Rattle.assembler_names.proofs.TableLaws.{hash-on, hash-end}
use Rattle.assembler_names.proofs.table.hash.Goals as goal

pub loop-left-preserved : goal.loop-left-preserved
loop-left-preserved c = record {
  low = c.step-h.ensures.low;
  same = hash-on _ _ _ _ _ c.in-len4-up.len_at_least c.from_le_bytes.ensures c.step-h.ensures.value c.loop-left.invariant.same;
}

pub returns-clause-value : goal.returns-clause-value
returns-clause-value c = hash-end _ _ _ _ _ c.in_default.len_below c.rest.ensures.value c.step.ensures.value c.loop-left.invariant.same
