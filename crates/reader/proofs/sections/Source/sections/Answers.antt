-- Each section is stored behind the one before it.
use Rattle.std.proofs.Common.{arith, refl}
use Rattle.reader.proofs.SectionLaws.{codes_room, lengths_fit, tokens_fed, comments_last, rules_low, Stored, stored}
use Rattle.reader.proofs.sections.Source.sections.Goals as goal
use Rattle.reader.proofs.sections.Source.sections.Goals.{After-at-trailing}

pub gamma_codes-n-requires : goal.gamma_codes-n-requires
gamma_codes-n-requires c = omega (arith, codes_room _ _ c.requires.parted c.args.blank, c.states.auto.row)

pub header-h-requires-clause-lengths : goal.header-h-requires-clause-lengths
header-h-requires-clause-lengths c = lengths_fit _ _ c.requires.parted

pub header-h-requires-clause-fed : goal.header-h-requires-clause-fed
header-h-requires-clause-fed c = tokens_fed _ _ c.requires.parted

pub header-h-requires-clause-last : goal.header-h-requires-clause-last
header-h-requires-clause-last c = comments_last _ _ c.requires.parted

pub overflow_cast-counts : goal.overflow_cast-counts
overflow_cast-counts c = record { fits = rules_low _ _ c.requires.parted }

-- the sections as they stand, for the goals behind the last of them
all_stored : (c : After-at-trailing) → Stored c.args.self.now c.args.row.now c.args.blank c.args.sheet.now c.trailing.new.sheet c.at-states.result c.at-sigma.result c.at-gamma.result c.at-finals.result c.at-header.result c.at-trailing.result
all_stored c =
    stored _ _ c.requires.parted _ _ _ _ _ _ _ _ c.requires.front _ c.gamma_codes-n.ensures.codes c.states.ensures c.sigma.ensures c.gamma.ensures c.places.ensures c.header-h.ensures.written c.trailing.ensures
    _ _ _ _ _ _ c.at-states.ensures c.at-sigma.ensures c.at-gamma.ensures c.at-finals.ensures c.at-header.ensures c.at-trailing.ensures

pub returns-clause-written : goal.returns-clause-written
returns-clause-written c = (all_stored (goal.at.returns-clause-written c).After-at-trailing).written

pub returns-clause-counts : goal.returns-clause-counts
returns-clause-counts c =
    (all_stored (goal.at.returns-clause-counts c).After-at-trailing).counts _ _ _ _ _ _ _ c.members.ensures c.members-2.ensures c.members-3.ensures c.members-4.ensures c.members-5.ensures c.members-6.ensures refl

pub members-requires-clause-between : goal.members-requires-clause-between
members-requires-clause-between c = (all_stored (goal.at.members-requires-clause-between c).After-at-trailing).ends.states

pub members-requires-2-clause-between : goal.members-requires-2-clause-between
members-requires-2-clause-between c = (all_stored (goal.at.members-requires-2-clause-between c).After-at-trailing).ends.sigma

pub members-requires-3-clause-between : goal.members-requires-3-clause-between
members-requires-3-clause-between c = (all_stored (goal.at.members-requires-3-clause-between c).After-at-trailing).ends.gamma

pub members-requires-4-clause-between : goal.members-requires-4-clause-between
members-requires-4-clause-between c = (all_stored (goal.at.members-requires-4-clause-between c).After-at-trailing).ends.finals

pub members-requires-5-clause-between : goal.members-requires-5-clause-between
members-requires-5-clause-between c = (all_stored (goal.at.members-requires-5-clause-between c).After-at-trailing).ends.header

pub members-requires-6-clause-between : goal.members-requires-6-clause-between
members-requires-6-clause-between c = (all_stored (goal.at.members-requires-6-clause-between c).After-at-trailing).ends.trailing
