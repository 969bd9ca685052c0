-- `chars::is_admitted` meets its contract: the tests of each arm bound a segment that lies within the set, or outside it.
use Rattle.std.proofs.Common.{rules}
use Rattle.chars.proofs.Segments.{admitted_over, admitted_first}
use Rattle.chars.proofs.is_admitted.Goals as goal

ruleset by_segment = (rules, admitted_over, admitted_first)

pub returns-in_default : goal.returns-in_default
returns-in_default c = search by_segment

pub returns-in_default-2 : goal.returns-in_default-2
returns-in_default-2 c = search by_segment

pub returns-in_default-3 : goal.returns-in_default-3
returns-in_default-3 c = search by_segment

pub returns-in-0-to-705 : goal.returns-in-0-to-705
returns-in-0-to-705 c = search by_segment

pub returns-in-0-to-705-2 : goal.returns-in-0-to-705-2
returns-in-0-to-705-2 c = search by_segment

pub returns-in-0-to-705-3 : goal.returns-in-0-to-705-3
returns-in-0-to-705-3 c = search by_segment
