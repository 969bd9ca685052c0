-- Answers for `state_names::state_name`: the sheet's rows of three words before it is asked for, and then a part of the text.
use Rattle.std.proofs.Common.{refl}
use Rattle.state_names.proofs.Laws.{no_state, no_state-at, state-part, state-part-at}
use Rattle.state_names.proofs.state_name.Goals as goal

pub returns-in-Some-clause-bytes : goal.returns-in-Some-clause-bytes
returns-in-Some-clause-bytes c =
    state-part _ _ _ 0 _ c.as_chunks.ensures.front_len _ c.as_chunks.ensures.front c.in-Some.ensures.lookup.3.0 c.in-Some.ensures.lookup.1 _ c.part_of.ensures.bytes

pub returns-in-Some-clause-place : goal.returns-in-Some-clause-place
returns-in-Some-clause-place c = (
  c.part_of.ensures.place.0,
  state-part-at _ _ _ _ _ c.as_chunks.ensures.front_len _ c.as_chunks.ensures.front c.in-Some.ensures.lookup.3.0 c.in-Some.ensures.lookup.1 _ c.part_of.ensures.place.1,
)

pub returns-in-None-clause-bytes : goal.returns-in-None-clause-bytes
returns-in-None-clause-bytes c = no_state _ _ _ 0 _ c.as_chunks.ensures.front_len c.in-None.ensures.lookup.3

pub returns-in-None-clause-place : goal.returns-in-None-clause-place
returns-in-None-clause-place c = (refl, no_state-at _ _ _ _ _ c.as_chunks.ensures.front_len c.in-None.ensures.lookup.3)
