use Rattle.std.proofs.Common.{arith}
use Rattle.infer.proofs.SectionLaws.{finals_are}
use Rattle.infer.proofs.names.Names.finals.Goals as goal

pub returns : goal.returns
returns c =
    finals_are _ _ _ _ _ _ _ c.len.ensures.tokens (omega (arith, c.len.ensures, c.args.self.now.few, c.requires.marks)) (c.fill.ensures.after (λ y e. e)) c.list_finals.ensures
