-- The definition makes the same test.
use Rattle.std.proofs.Common.{sym}
use Rattle.sheet.proofs.CommentLaws.{many, trailing-none, trailing-all}
use Rattle.sheet.proofs.comments.trailing.Goals as goal

pub returns-in-Some : goal.returns-in-Some
returns-in-Some c = trailing-all _ _ c.requires _ _ _ _ c.in-Some.is (sym (many c.args.tokens.now)) c.comments.ensures

pub returns-in_default : goal.returns-in_default
returns-in_default c = trailing-none _ _ c.requires _ c.in_default.is
