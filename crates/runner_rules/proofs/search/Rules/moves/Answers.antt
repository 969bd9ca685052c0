-- Of so many tapes the words of the record are the rule's directions.
use Rattle.std.proofs.Common.{refl, arith}
use Rattle.runner_rules.proofs.Applied.{dirs_moved}
use Rattle.runner_rules.proofs.search.Rules.moves.Goals as goal

pub returns-then-self-lt2 : goal.returns-then-self-lt2
returns-then-self-lt2 c =
    dirs_moved c.args.self.now c.args.rule c.requires.rule _ c.record-record.ensures.words c.requires.rules _ refl
    (λ h. absurd (omega (arith, h, c.if-self-lt2.true))) (λ h. absurd (omega (arith, h, c.if-self-lt2.true)))

pub returns-then-self-lt3 : goal.returns-then-self-lt3
returns-then-self-lt3 c =
    dirs_moved c.args.self.now c.args.rule c.requires.rule _ c.record-record.ensures.words c.requires.rules _ refl
    (λ h. refl) (λ h. absurd (omega (arith, h, c.if-self-lt3.true)))

pub returns : goal.returns
returns c =
    dirs_moved c.args.self.now c.args.rule c.requires.rule _ c.record-record.ensures.words c.requires.rules _ refl
    (λ h. refl) (λ h. refl)
