use Rattle.tokens.specs.Listed.{tokens_of}
use Rattle.sheet.proofs.CommentLaws.{Gathering}
use Rattle.sheet.proofs.comments.comments.Given as goal

-- the comments that are left go behind what is stored
abbrev pub invariant-loop-i : goal.invariant-loop-i
invariant-loop-i l = Gathering (tokens_of l.tokens) l.from l.to l.fn.sheet l.sheet l.i
