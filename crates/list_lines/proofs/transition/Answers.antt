-- The pieces are appended one after the other, each from the words of the rule.
use Rattle.std.proofs.Common.{ap, ap₂}
use Rattle.language.specs.Agreement.{groups}
use Rattle.list_lines.specs.Listing.{named, parted, codes, moves, transition}
use Rattle.emit.proofs.Chain.{◌▹◌}
use Rattle.list_lines.proofs.Chain.{said, same}
use Rattle.list_lines.proofs.transition.Goals as goal

pub returns : goal.returns
unfolding transition
returns c =
    let actions = ap₂ (groups 7) c.arity-n.ensures c.actions-actions.ensures in
    let text = c.args.text.now in
    said c.bytes.ensures ▹ same (ap (λ p. named text p) c.from.ensures) c.named.ensures
    ▹ said c.bytes-2.ensures ▹ same (ap (λ a. parted 0x2C (codes 0 a)) actions) c.codes.ensures
    ▹ said c.bytes-3.ensures ▹ same (ap (λ p. named text p) c.to.ensures) c.named-2.ensures
    ▹ said c.bytes-4.ensures ▹ same (ap (λ a. parted 0x2C (codes 3 a)) actions) c.codes-2.ensures
    ▹ said c.bytes-5.ensures ▹ same (ap (λ a. parted 0x2C (moves a)) actions) c.directions.ensures ▹ said c.bytes-6.ensures
