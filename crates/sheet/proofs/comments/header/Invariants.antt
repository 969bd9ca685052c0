use Rattle.std.proofs.Common.{◌-◌}
use Rattle.tokens.specs.Listed.{tokens_of}
use Rattle.sheet.proofs.CommentLaws.{Feeding, Heading, Passing}
use Rattle.sheet.proofs.RowLaws.{Adding}
use Rattle.sheet.proofs.comments.header.Given as goal

-- what the lines from here on put there is left
abbrev pub invariant-loop-i : goal.invariant-loop-i
invariant-loop-i l = record {
  feeding : Feeding (tokens_of l.tokens) l.i;
  heading : Heading (tokens_of l.tokens) l.fn.sheet l.sheet l.left l.i;
  passing : Passing (tokens_of l.tokens) l.left l.i;
  adding : Adding (tokens_of l.tokens) l.rules l.left l.i;
}

abbrev pub decreases-loop-i : goal.decreases-loop-i
decreases-loop-i l = l.tokens.count - l.i
