-- The test of the code is the definition's, and the line that is appended to the lent output stands at its front.
use Rattle.std.proofs.Common.{sym, ◌∙◌, arith}
use Rattle.longest.proofs.Calls.{refused_by, line_written, line_most}
use Rattle.longest.proofs.longest.Goals as goal

pub returns-then-not-is_answered-clause-outcome : goal.returns-then-not-is_answered-clause-outcome
returns-then-not-is_answered-clause-outcome c =
    refused_by c.args.n c.args.output.now (sym c.is_answered.ensures ∙ c.if-not-is_answered.true)

pub returns-clause-outcome : goal.returns-clause-outcome
returns-clause-outcome c =
    line_written c.args.n c.args.output.now (sym c.is_answered.ensures ∙ c.if-not-is_answered.false) (omega arith) c.line-length.new.row c.line-length.result c.number_for.result c.line-length.ensures c.number_for.ensures

pub returns-clause-most : goal.returns-clause-most
returns-clause-most c =
    line_most c.args.n c.args.output.now (sym c.is_answered.ensures ∙ c.if-not-is_answered.false) (omega arith) c.line-length.new.row c.line-length.result c.number_for.result c.line-length.ensures c.number_for.ensures
