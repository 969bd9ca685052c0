-- The codes of the records that are left go behind those that are printed.
use Rattle.std.proofs.Common.{ap, ◌∙◌}
use Rattle.list_lines.specs.Listing.{codes}
use Rattle.list_lines.proofs.Chain.{counted}
use Rattle.sheet_view.proofs.Records.{groups-start}
use Rattle.list_lines.proofs.Lists.{list_start, codes-on, codes-end}
use Rattle.list_lines.proofs.codes.Goals as goal

pub loop-i-init : goal.loop-i-init
loop-i-init c = list_start c.args.sep (ap (codes c.args.o) (groups-start c.args.k c.args.n c.args.words.now))

pub loop-i-preserved : goal.loop-i-preserved
loop-i-preserved c =
    rw c.after-rest.ensures
    (codes-on _ _ _ _ _ _ c.loop-i-test.true c.requires c.loop-i.invariant c.separator.ensures (counted (c.into.ensures ∙ c.word.ensures) c.decimal.ensures))

pub returns : goal.returns
returns c = codes-end _ _ _ _ _ _ c.loop-i-test.false c.loop-i.invariant
