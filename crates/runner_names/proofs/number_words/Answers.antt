-- `runner_names::number_words` meets its contract: the first equal word of each token is put where the token begins.
use Rattle.runner_names.proofs.Stages.{intern_room, words_room, starts_rising, words_numbered}
use Rattle.runner_names.proofs.number_words.Goals as goal

pub intern-requires : goal.intern-requires
intern-requires c = intern_room _ _ c.requires.short c.requires.room _ _ c.tokenize-count.ensures.0 c.tokenize-count.ensures.1

pub invariant_of-put_at_starts : goal.invariant_of-put_at_starts
invariant_of-put_at_starts c = record {
  within =
      words_room _ _ c.requires.short c.requires.room _ _ c.tokenize-count.ensures.0 c.tokenize-count.ensures.1 _ c.intern.ensures.0 c.intern.ensures.1
      _ _ _ _ c.split_at_mut-front.ensures.front c.split_at_mut-front.ensures.back c.split_at.ensures.front c.split_at.ensures.back;
}

pub put_at_starts-requires-clause-rising : goal.put_at_starts-requires-clause-rising
put_at_starts-requires-clause-rising c =
    starts_rising _ _ c.requires.short c.requires.room _ _ c.tokenize-count.ensures.0 c.tokenize-count.ensures.1 _ c.intern.ensures.0 c.intern.ensures.1
    _ _ _ _ c.split_at_mut-front.ensures.front c.split_at_mut-front.ensures.back c.split_at.ensures.front c.split_at.ensures.back

pub returns : goal.returns
returns c =
    words_numbered _ _ c.requires.short c.requires.room _ _ c.tokenize-count.ensures.0 c.tokenize-count.ensures.1 _ c.intern.ensures.0 c.intern.ensures.1
    _ _ _ _ c.split_at_mut-front.ensures.front c.split_at_mut-front.ensures.back c.split_at.ensures.front c.split_at.ensures.back _ c.put_at_starts.ensures
