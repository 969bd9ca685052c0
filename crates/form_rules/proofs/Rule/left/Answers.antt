-- The pieces of a rule's left side stand one after the other, each from the words of the record.
use Rattle.form_rules.proofs.RuleWords.{left-written}
use Rattle.form_rules.proofs.Rule.left.Goals as goal

pub returns : goal.returns
returns c =
    left-written _ _ _ _ c.arity-n.ensures c.actions.ensures _ _ _ _ _ _ _ c.from.ensures c.bytes.ensures c.verbatim.ensures c.bytes-2.ensures c.symbols.ensures c.bytes-3.ensures
