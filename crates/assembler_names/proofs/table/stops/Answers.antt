use Rattle.std.proofs.Common.{◌∙◌, sym}
use Rattle.assembler_names.proofs.TableLaws.{stops_empty, stops-filled}
use Rattle.assembler_names.proofs.table.stops.Goals as goal

pub returns-then-v-eq0 : goal.returns-then-v-eq0
returns-then-v-eq0 c = stops_empty _ _ _ _ c.if-v-eq0.true

pub returns-else-v-eq0 : goal.returns-else-v-eq0
returns-else-v-eq0 c = c.has_name.ensures ∙ sym (stops-filled _ _ _ _ c.if-v-eq0.false)
