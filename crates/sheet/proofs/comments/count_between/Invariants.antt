use Rattle.tokens.specs.Listed.{tokens_of}
use Rattle.sheet.proofs.CommentLaws.{Counting}
use Rattle.sheet.proofs.comments.count_between.Given as goal

-- the comments that are left are those that are not counted
abbrev pub invariant-loop-i : goal.invariant-loop-i
invariant-loop-i l = Counting (tokens_of l.tokens) l.from l.to l.n l.i
