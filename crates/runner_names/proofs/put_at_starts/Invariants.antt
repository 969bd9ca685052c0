-- Tokens begin one behind the other, so each word put leaves those before it in their places.
use Rattle.tokens.specs.Listed.{tokens_of}
use Rattle.runner_names.specs.Rows.{AtStarts}
use Rattle.runner_names.proofs.put_at_starts.Given as goal

-- the words of the first x tokens stand where these begin
abbrev pub invariant-loop-x : goal.invariant-loop-x
invariant-loop-x l = AtStarts (tokens_of l.tokens) l.words l.row l.x
