-- Answers for `replay::word_at`: four bytes make a word, and behind the last there is none.
use Rattle.replay.proofs.Laws.{word_in, word_out}
use Rattle.replay.proofs.word_at.Goals as goal

pub returns-in-Some : goal.returns-in-Some
returns-in-Some c = word_in _ _ _ c.as_chunks.ensures.front_len _ c.as_chunks.ensures.front c.in-Some.ensures.lookup.3.0 c.in-Some.ensures.lookup.1 _ c.from_le_bytes.ensures

pub returns-in-None : goal.returns-in-None
returns-in-None c = word_out _ _ _ c.as_chunks.ensures.front_len c.in-None.ensures.lookup.3
