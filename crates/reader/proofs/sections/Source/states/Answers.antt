-- Where there can be states, the words put are their section; where there can be none, the section holds no word.
use Rattle.reader.proofs.SectionLaws.{no_states, firsts_few, firsts_low, tokens_fed, states_put}
use Rattle.reader.proofs.sections.Source.states.Goals as goal

pub returns-then-not-has_states : goal.returns-then-not-has_states
returns-then-not-has_states c = no_states _ _ c.requires _ c.has_states.ensures c.if-not-has_states.true _

pub invariant_of-names-clause-fed : goal.invariant_of-names-clause-fed
invariant_of-names-clause-fed c = tokens_fed _ _ c.requires

pub invariant_of-names-clause-few : goal.invariant_of-names-clause-few
invariant_of-names-clause-few c =
    let k = c.split_at_mut-firsts.ensures in
    firsts_few _ _ c.requires _ c.has_states.ensures _ _ k.front k.back

pub invariant_of-names-clause-low : goal.invariant_of-names-clause-low
invariant_of-names-clause-low c =
    let k = c.split_at_mut-firsts.ensures in
    firsts_low _ _ c.requires _ c.has_states.ensures _ _ k.front k.back c.if-not-has_states.false

pub returns : goal.returns
returns c =
    let k = c.split_at_mut-firsts.ensures in
    states_put _ _ c.requires _ c.has_states.ensures _ _ k.front k.back c.section.ensures
