use Rattle.assembler_names.proofs.TableLaws.{rest_0, rest_1, rest_2, rest_3, rest_more}
use Rattle.assembler_names.proofs.table.rest.Goals as goal

pub returns-in-len1-clause-value : goal.returns-in-len1-clause-value
returns-in-len1-clause-value c = rest_1 _ _ c.in-len1.len_at_least c.in-len1.len_below c.from.ensures

pub returns-in-len2-clause-value : goal.returns-in-len2-clause-value
returns-in-len2-clause-value c = rest_2 _ _ c.in-len2.len_at_least c.in-len2.len_below c.from_le_bytes.ensures

pub returns-in-len3-clause-value : goal.returns-in-len3-clause-value
returns-in-len3-clause-value c = rest_3 _ _ c.in-len3.len_at_least c.in-len3.len_below c.from_le_bytes-in-len3.ensures

pub returns-in_default-clause-value : goal.returns-in_default-clause-value
returns-in_default-clause-value c = rest_0 _ c.in_default.len_below

pub returns-in_default-2-clause-value : goal.returns-in_default-2-clause-value
returns-in_default-2-clause-value c = rest_more _ c.in_default.len_at_least
