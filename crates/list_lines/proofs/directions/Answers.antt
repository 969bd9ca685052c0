-- The moves of the actions that are left go behind those that are printed.
use Rattle.std.proofs.Common.{ap, ◌∙◌}
use Rattle.language.specs.Plain.{direction}
use Rattle.language.specs.Agreement.{dir_of}
use Rattle.list_lines.specs.Listing.{moves}
use Rattle.list_lines.proofs.Chain.{same}
use Rattle.sheet_view.proofs.Records.{groups-start}
use Rattle.list_lines.proofs.Lists.{list_start, moves-on, moves-end}
use Rattle.list_lines.proofs.directions.Goals as goal

pub loop-i-init : goal.loop-i-init
loop-i-init c = list_start 0x2C (ap moves (groups-start 7 c.args.n c.args.actions.now))

pub loop-i-preserved : goal.loop-i-preserved
loop-i-preserved c =
    rw c.after-rest.ensures
    (moves-on _ _ _ _ c.loop-i-test.true c.loop-i.invariant c.separator.ensures (same (ap direction (c.direction_of.ensures ∙ ap dir_of c.word.ensures)) c.direction.ensures))

pub returns : goal.returns
returns c = moves-end _ _ _ _ c.loop-i-test.false c.loop-i.invariant
