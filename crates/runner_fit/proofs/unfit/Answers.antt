-- The tests are those of the machine that the words stand for.
use Rattle.std.proofs.Common.{◌&&◌, leb, ap, ◌∙◌}
use mathlib.Core.Path.{ap₂}
use Rattle.language.specs.Agreement.{records}
use Rattle.runner_fit.specs.Tests.{same_arity}
use Rattle.runner_fit.proofs.Fit.{tests_mean}
use Rattle.runner_fit.proofs.unfit.Goals as goal

pub returns : goal.returns
returns c =
    let h = c.args.head in
    let arity = c.has_arity-arity.ensures ∙ ap (λ l. same_arity h.tapes (records h.counts.rules l)) c.rules.ensures in
    let room = c.has_room-room.ensures ∙ ap₂ (λ x n. leb 1 x && leb n x) c.half-half.ensures c.input_length.ensures in
    c.first_failed.ensures ∙ tests_mean h _ _ _ _ _ _ c.has_tapes.ensures arity room
