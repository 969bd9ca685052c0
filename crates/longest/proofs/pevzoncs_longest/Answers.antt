-- The answer of `longest` in words, at the front of the row if it has room.
use Rattle.std.proofs.Common.{ℕ, List, get_or, sym, ap, ap₂, subst, ◌∙◌, Result, IfOk, ◌≤◌}
use Rattle.longest.specs.declared.BestLine.{BestLine}
use Rattle.longest.specs.declared.LongestRefusal.{LongestRefusal}
use Rattle.longest.specs.Call.{given, stored}
use Rattle.longest.proofs.Calls.{answer_short}
use Rattle.longest.proofs.pevzoncs_longest.Goals as goal

pub answer_words-requires : goal.answer_words-requires
answer_words-requires c =
    subst (λ (a : Result BestLine LongestRefusal). IfOk a (λ l. l.length ≤ 96)) (sym (ap (λ (o : Result BestLine LongestRefusal × List ℕ). o.0) c.longest-found.ensures.outcome)) (answer_short c.args.n c.args.output.now)

pub returns-clause-outcome : goal.returns-clause-outcome
unfolding given
returns-clause-outcome c =
    let words : List ℕ → ℕ × List ℕ × List ℕ = λ w. (get_or w 0 0, c.longest-found.new.output, stored w c.args.answer.now) in
    ap₂ (λ (k : ℕ) (r : List ℕ). (k, c.longest-found.new.output, r)) c.give.ensures.0 c.give.ensures.1
    ∙ (ap words c.answer_words.ensures
    ∙ ap (λ (o : Result BestLine LongestRefusal × List ℕ). given o c.args.answer.now) c.longest-found.ensures.outcome)
