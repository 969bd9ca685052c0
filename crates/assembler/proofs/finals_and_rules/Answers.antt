use Rattle.assembler.proofs.PartLaws.{part-names}
use Rattle.assembler.proofs.AssembledLaws.{all_fit, named_laid, rules_few, rules_fed, rules_wrong, finals_and_rules}
use Rattle.assembler.proofs.finals_and_rules.Goals as goal

pub overflow_add-count : goal.overflow_add-count
overflow_add-count c = rw c.count.ensures (all_fit c.args.text.now _ _ c.requires.laid.0 _ _ c.requires.wrong c.requires.room)

pub finals-requires-clause-interned : goal.finals-requires-clause-interned
finals-requires-clause-interned c = λ h. part-names _ _ _ _ (named_laid c.args.text.now _ _ _ c.args.first.now c.requires.laid.0 c.names.ensures.0) _ _ _ _ c.split_at_mut-front.ensures.front c.split_at_mut-front.ensures.back c.split_at.ensures.front c.split_at.ensures.back c.args.text.now (c.names.ensures.1.listed h)

pub ruled-requires-clause-room : goal.ruled-requires-clause-room
ruled-requires-clause-room c = rules_few c.args.text.now _ _ _ c.args.first.now c.requires.laid.0 c.names.ensures.0 _ _ _ _ c.split_at_mut-front.ensures.front c.split_at_mut-front.ensures.back c.split_at.ensures.front c.split_at.ensures.back _ _ c.finals.ensures c.requires.room

pub ruled-requires-clause-fed : goal.ruled-requires-clause-fed
ruled-requires-clause-fed c = rules_fed c.args.text.now _ _ _ c.args.first.now c.requires.laid.0 c.names.ensures.0 _ _ _ _ c.split_at_mut-front.ensures.front c.split_at_mut-front.ensures.back c.split_at.ensures.front c.split_at.ensures.back c.requires.fed

pub ruled-requires-clause-number : goal.ruled-requires-clause-number
ruled-requires-clause-number c = rules_wrong c.args.text.now _ _ _ c.args.first.now c.requires.laid.0 c.names.ensures.0 _ _ _ _ c.split_at_mut-front.ensures.front c.split_at_mut-front.ensures.back c.split_at.ensures.front c.split_at.ensures.back _ c.requires.wrong

pub returns : goal.returns
returns c =
    let r = finals_and_rules c.args.text.now _ _ _ c.args.first.now c.requires.laid.0 c.names.ensures.0 _ _ _ _ c.split_at_mut-front.ensures.front c.split_at_mut-front.ensures.back c.split_at.ensures.front c.split_at.ensures.back _ _ c.finals.ensures _ c.finals.auto.marks _ _ c.requires.wrong (rw c.count.ensures at c.names.ensures.1) _ c.ruled.ensures in
    record { kept = r.0; named = r.1; log = r.2 }
