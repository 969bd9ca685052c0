use Rattle.std.proofs.Common.{arith}
use Rattle.assembler.proofs.Rows.{fed_here}
use Rattle.infer.specs.Names.{row_of}
use Rattle.infer.proofs.WalkLaws.{mentioning_start, mentioning_on, mentioning_end}
use Rattle.infer.proofs.names.Names.mentions.Goals as goal

pub loop-e-init : goal.loop-e-init
loop-e-init c = mentioning_start c.args.self.now _ _

pub behind_line-next-requires-clause-fed : goal.behind_line-next-requires-clause-fed
behind_line-next-requires-clause-fed c = fed_here (row_of c.args.self.now) c.loop-e.e c.loop-e.invariant.fed (omega (arith, c.loop-e-test.true, c.len.ensures.tokens)) _ c.at-t.ensures

pub loop-e-preserved : goal.loop-e-preserved
loop-e-preserved c =
    mentioning_on _ _ _ _ _ _ c.loop-e.invariant (omega (arith, c.loop-e-test.true, c.len.ensures.tokens)) _ c.at-t.ensures _ _ _ c.mention.ensures c.behind_line-next.ensures

pub returns : goal.returns
returns c = mentioning_end _ _ _ _ _ _ c.loop-e.invariant (omega (arith, c.loop-e-test.false, c.len.ensures.tokens))
