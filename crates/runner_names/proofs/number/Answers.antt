-- `runner_names::number` meets its contract: the names are words, which have numbers, and the states are those of the sheet.
use native.Mathlib.Omega.{arith}
use Rattle.language.proofs.Claim.{is_short}
use Rattle.runner_names.proofs.NameLaws.{have_numbers, names_numbered}
use Rattle.runner_names.proofs.number.Goals as goal

pub number_words-requires-clause-short : goal.number_words-requires-clause-short
number_words-requires-clause-short c = is_short _ c.requires.read.is_admitted

pub put_states-requires : goal.put_states-requires
put_states-requires c =
    have_numbers _ _ _ c.requires.read _ c.number_words.ensures (omega (arith, c.number_words.auto.work, c.requires.room))
    _ _ c.split_at_mut-front.ensures.front c.split_at_mut-front.ensures.back

pub returns : goal.returns
returns c =
    names_numbered _ _ _ c.requires.read _ c.number_words.ensures (omega (arith, c.number_words.auto.work, c.requires.room))
    _ _ c.split_at_mut-front.ensures.front c.split_at_mut-front.ensures.back _ c.put_states.auto.row c.put_states.ensures
