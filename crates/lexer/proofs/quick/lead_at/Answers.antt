-- Answers for `lexer::quick::lead_at`: the kinds of one ASCII character; where a token ends
-- with the character behind it, its run ends.
use Rattle.std.proofs.Common.{rules, refl, arith}
use Rattle.lexer.specs.Tokens.{is_word_continue, is_ascii_digit}
use Rattle.lexer.proofs.Leads.{stop_word, stop_number, run_ends, quick_lead, quick_word, quick_number, no_word}
use Rattle.lexer.proofs.quick.lead_at.Goals as goal

pub returns-in_default-lead-clause-quick : goal.returns-in_default-lead-clause-quick
returns-in_default-lead-clause-quick c =
    let ends = run_ends is_word_continue _ _ _ (c.if-not-ends_at.ensures refl) (λ d l p. stop_word d l (search rules)) in
    λ h. quick_word _ _ _ c.in-Some.ensures c.in-0.is ends

pub returns-in_default-lead-2-clause-quick : goal.returns-in_default-lead-2-clause-quick
returns-in_default-lead-2-clause-quick c =
    let ends = run_ends is_ascii_digit _ _ _ (c.if-not-ends_at-2.ensures refl) (λ d l p. stop_number d l (search rules)) in
    λ h. quick_number _ _ _ c.in-Some.ensures c.in-1.is ends

pub returns-in_default-lead-3-clause-quick : goal.returns-in_default-lead-3-clause-quick
returns-in_default-lead-3-clause-quick c = λ h. quick_lead _ _ _ c.in-Some.ensures (omega arith) h

pub returns-in_default-lead-3-clause-word : goal.returns-in_default-lead-3-clause-word
returns-in_default-lead-3-clause-word c = λ e. no_word _ _ _ c.in-Some.ensures e

pub returns-then-lead-gt-QUOTED-clause-quick : goal.returns-then-lead-gt-QUOTED-clause-quick
returns-then-lead-gt-QUOTED-clause-quick c = λ h. quick_lead _ _ _ c.in-Some.ensures (omega (arith, c.if-lead-gt-QUOTED.true)) h

pub returns-then-lead-gt-QUOTED-clause-word : goal.returns-then-lead-gt-QUOTED-clause-word
returns-then-lead-gt-QUOTED-clause-word c = λ e. no_word _ _ _ c.in-Some.ensures e
