-- The words behind the final states as they are listed.
use Rattle.std.proofs.Common.{ap, drop, ◌*◌, ◌∙◌}
use Rattle.sheet_view.proofs.Views.{header_words}
use Rattle.sheet_view.proofs.sections.Sections.header.Goals as goal

pub returns : goal.returns
returns c =
    let s = c.args.self.now in
    c.after.ensures ∙ ap (drop (2 * s.counts.finals)) c.finals.ensures ∙ header_words s.counts s.states.now
