-- The passes over the entered lines give the diagnostics of the row, and these are the language's.
use Rattle.assembler.proofs.AssembledLaws.{enter_room, enter_few, entered-lines, passes_laid, passes_room, passes_fed, outcome}
use Rattle.assembler.proofs.assemble.Goals as goal

pub lines-requires : goal.lines-requires
lines-requires c = (enter_room c.args.text.now _ _ c.requires, enter_few c.args.text.now _ _ c.requires)

pub diagnose-requires : goal.diagnose-requires
diagnose-requires c =
    let e = entered-lines c.args.text.now _ _ c.requires _ c.lines.ensures in
    ((passes_laid c.args.text.now _ _ _ c.requires e, passes_room c.args.text.now _ _ _ c.requires e), passes_fed c.args.text.now _ _ _ c.requires e)

pub returns : goal.returns
returns c = outcome c.args.text.now _ _ _ c.requires (entered-lines c.args.text.now _ _ c.requires _ c.lines.ensures) _ _ _ _ c.diagnose.ensures
