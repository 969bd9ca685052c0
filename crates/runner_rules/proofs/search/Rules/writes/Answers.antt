-- Of so many tapes the words of the record are the rule's symbols.
use Rattle.std.proofs.Common.{refl, arith}
use Rattle.runner_rules.proofs.Applied.{symbols_written}
use Rattle.runner_rules.proofs.search.Rules.writes.Goals as goal

pub returns-then-self-lt2 : goal.returns-then-self-lt2
returns-then-self-lt2 c =
    symbols_written c.args.self.now c.args.rule c.requires.rule _ c.record-record.ensures.words c.requires.rules _ refl
    (λ h. absurd (omega (arith, h, c.if-self-lt2.true))) (λ h. absurd (omega (arith, h, c.if-self-lt2.true)))

pub returns-then-self-lt3 : goal.returns-then-self-lt3
returns-then-self-lt3 c =
    symbols_written c.args.self.now c.args.rule c.requires.rule _ c.record-record.ensures.words c.requires.rules _ refl
    (λ h. refl) (λ h. absurd (omega (arith, h, c.if-self-lt3.true)))

pub returns : goal.returns
returns c = symbols_written c.args.self.now c.args.rule c.requires.rule _ c.record-record.ensures.words c.requires.rules _ refl (λ h. refl) (λ h. refl)
