use Rattle.std.proofs.Common.{arith, refl, sym, ap, ◌∙◌}
use Rattle.assembler_names.specs.Index.{own_slot}
use Rattle.tokens.proofs.Rows.{length-rows}
use Rattle.assembler_names.proofs.IndexLaws.{own_low, enter-letter, enter-word}
use Rattle.assembler_names.proofs.table.Layout.enter.Goals as goal

pub store-requires-clause-slot : goal.store-requires-clause-slot
store-requires-clause-slot c = omega (arith, own_low _ _ _ (sym c.in-Some.is ∙ c.own_slot.ensures), c.args.self.begins, c.requires.slots)

pub returns-in-Some : goal.returns-in-Some
returns-in-Some c =
    enter-letter _ _ _ _ _ _ _ _ c.requires.before c.requires.inside c.requires.row c.requires.slots c.args.self.begins _ c.token-t.ensures c.if-t-ne-WORD.false _ refl
    c.in-Some.slot (sym c.in-Some.is ∙ c.own_slot.ensures) _ _ c.store.ensures.row c.store.ensures.slots

pub returns : goal.returns
returns c =
    enter-word _ _ _ _ _ _ _ _ c.requires.before c.requires.inside c.requires.row c.requires.slots c.args.self.begins _ c.token-t.ensures c.if-t-ne-WORD.false _ c.name-name.ensures
    _ _ (sym c.in_default.is ∙ c.own_slot.ensures ∙ ap (own_slot c.args.self.letters) (sym c.name-name.ensures)) c.hashed_slot-at.ensures.value c.hashed_slot-at.ensures.low (sym c.in-Some-probe.is ∙ c.probe.ensures) _ _ c.store-2.ensures.row c.store-2.ensures.slots
