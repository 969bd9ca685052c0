-- The pieces are appended one after the other, each from the record.
use Rattle.std.proofs.Common.{ap, ◌∙◌}
use Rattle.diag.specs.declared.Diagnostic.{Diagnostic}
use Rattle.emit.proofs.Chain.{◌▹◌}
use Rattle.list_lines.specs.Listing.{place, related, position, diagnostic}
use Rattle.list_lines.proofs.Chain.{said, counted, same}
use Rattle.list_lines.proofs.diagnostic.Goals as goal

pub returns : goal.returns
unfolding diagnostic
returns c =
    let e = c.record_at-d.ensures in
    said c.bytes.ensures ▹ counted (c.into.ensures ∙ ap (λ (d : Diagnostic). d.code) e) c.decimal.ensures
    ▹ said c.bytes-2.ensures ▹ same (ap (λ (d : Diagnostic). place d.span) e) c.place.ensures
    ▹ said c.bytes-3.ensures ▹ same (ap (λ (d : Diagnostic). related d.related) e) c.related.ensures
    ▹ said c.bytes-4.ensures ▹ same (ap (λ (d : Diagnostic). position c.args.text.now d.span.start) e) c.position_of.ensures
    ▹ said c.bytes-5.ensures
