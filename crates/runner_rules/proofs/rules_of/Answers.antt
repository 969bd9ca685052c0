-- Names have their numbers, of each its state is looked up and then its first record: the table holds the rules.
use Rattle.std.proofs.Common.{◌≡◌, ◌+◌, ◌*◌, length, refl, arith, length-take}
use Rattle.runner_rules.proofs.Indexed.{records_numbered, rules_of}
use Rattle.runner_rules.proofs.rules_of.Goals as goal

pub of_rules-end-requires : goal.of_rules-end-requires
of_rules-end-requires c =
    records_numbered _ _ _ c.requires.read _ c.number.ensures _ c.split_at_mut-front.ensures.back (omega (arith, c.requires.room, c.number.auto.work))
    _ (omega (arith, c.of_states.auto.row, length-take (2 * (length c.args.text.now + 1)) c.split_at_mut-positions.result.1.now, c.split_at_mut-positions.ensures.back_len, c.split_at_mut-front.ensures.front_len))
    _ c.rules-words.ensures

pub returns-clause-rules : goal.returns-clause-rules
returns-clause-rules c =
    let tapes : c.args.head.tapes ≡ c.args.head.tapes = refl in
    let size : length c.of_states.new.row ≡ 2 * (length c.args.text.now + 1) =
    omega (arith, c.of_states.auto.row, length-take (2 * (length c.args.text.now + 1)) c.split_at_mut-positions.result.1.now, c.split_at_mut-positions.ensures.back_len, c.split_at_mut-front.ensures.front_len) in
    rules_of _ c.args.head c.args.sheet.now c.requires.read tapes c.rules-words.ensures c.requires.tapes c.requires.arity
    c.number.new.work c.number.ensures c.split_at_mut-front.ensures.back (omega (arith, c.requires.room, c.number.auto.work)) _ _ _
    c.split_at_mut-front.ensures.front c.split_at_mut-positions.ensures.front c.split_at_mut-positions.ensures.front_len
    size c.of_rules-end.auto.row c.of_states.ensures c.of_rules-end.ensures.row c.of_rules-end.ensures.end (omega arith)
