-- The refusal is that of the text's machine; where there is none the run is that of the machine on zeros.
use Rattle.std.proofs.Common.{sym, ap, ◌∙◌}
use Rattle.running.specs.Run.{run_on}
use Rattle.running.specs.Batch.{content_of_text}
use Rattle.running.proofs.Starts.{fit}
use Rattle.list_lines.proofs.Chain.{same}
use Rattle.run_lines.specs.Lines.{ended_lines}
use Rattle.run_listing.proofs.Lines.{put_unfit, put_run, unfit_of_text}
use Rattle.run_listing.proofs.described.Goals as goal

pub run_in_slices-end-requires-clause-fit : goal.run_in_slices-end-requires-clause-fit
run_in_slices-end-requires-clause-fit g c =
    fit _ _ (sym (rw c.in-None.is at (unfit_of_text _ _ _ c.requires.read _ _ c.unfit.ensures)))

pub returns-in-Some : goal.returns-in-Some
returns-in-Some g c =
    put_unfit _ _ _ _ _ _ (rw c.in-Some.is at (unfit_of_text _ _ _ c.requires.read _ _ c.unfit.ensures)) c.number.ensures c.refused.ensures

pub returns-in-None : goal.returns-in-None
returns-in-None g c =
    put_run _ _ _ _ (rw c.in-None.is at (unfit_of_text _ _ _ c.requires.read _ _ c.unfit.ensures))
    (same (ap (ended_lines c.args.machine.now.text.now (content_of_text c.args.machine.now.text.now))
    (c.run_in_slices-end.ensures.run ∙ ap (run_on (content_of_text c.args.machine.now.text.now) c.args.steps) c.requires.fresh)) c.ended.ensures)
