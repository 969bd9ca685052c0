-- The diagnostics of the records that are left go behind those that are printed.
use Rattle.std.proofs.Common.{refl, ap, ◌∙◌, arith}
use Rattle.std.specs.Iterator.Adapters.{take_source, take_count}
use Rattle.std.specs.Slice.Iter.{chunks_exact_rest, chunks_exact_size}
use Rattle.list_lines.specs.Listing.{diagnostic_lines}
use Rattle.emit.proofs.Chain.{◌▹◌, goes_from}
use Rattle.list_lines.proofs.Chain.{said, counted}
use Rattle.list_lines.proofs.Lists.{log-on, log-end}
use Rattle.list_lines.proofs.diagnostic_lines.Goals as goal

pub loop-record-init : goal.loop-record-init
unfolding diagnostic_lines
loop-record-init c =
    let gives = c.into_iter-record-iterator.ensures.into_iter_gives in
    let chunks = ap take_source gives ∙ c.take-record-items.ensures.source in
    let rest = ap chunks_exact_rest chunks ∙ c.chunks_exact.ensures.rest in
    let count = ap take_count gives ∙ c.take-record-items.ensures.count in
    record {
      five = ap chunks_exact_size chunks ∙ c.chunks_exact.ensures.size;
      goes = rw (rest, count) (goes_from (said c.bytes.ensures ▹ counted refl c.decimal.ensures ▹ said c.bytes-2.ensures));
    }

pub diagnostic-requires : goal.diagnostic-requires
diagnostic-requires c =
    let steps = c.in-Some.ensures.steps in
    omega (arith, steps.0.1.1, c.loop-record.invariant.five)

pub loop-record-preserved : goal.loop-record-preserved
loop-record-preserved c =
    let kept = c.loop-record.invariant in
    let steps = c.in-Some.ensures.steps in
    record { five = steps.0.0 ∙ kept.five; goes = log-on _ _ _ _ _ _ steps.0.1.0 (steps.0.1.1 ∙ kept.five) steps.1 kept.goes c.diagnostic.ensures }

pub returns : goal.returns
returns c =
    let kept = c.loop-record.invariant in
    log-end _ _ _ (λ some. rw kept.five at (c.in-None.ensures.steps some).1.0) kept.goes
