-- The pieces of a rule's right side stand one after the other, each from the words of the record.
use Rattle.form_rules.proofs.RuleWords.{right-written}
use Rattle.form_rules.proofs.Rule.right.Goals as goal

pub returns : goal.returns
returns c =
    right-written _ _ _ _ c.arity-n.ensures c.actions-actions.ensures _ _ _ _ _ _ _ _ _ c.to.ensures c.bytes.ensures c.verbatim.ensures c.bytes-2.ensures c.symbols.ensures
    c.bytes-3.ensures c.directions.ensures c.bytes-4.ensures
