-- The blank is noted, then the candidates.
use Rattle.std.proofs.Common.{rules}
use Rattle.infer_symbols.proofs.AlphabetLaws.{gamma-coded, gamma-counted}
use Rattle.infer_symbols.proofs.glyphs.Symbols.gamma_codes.Goals as goal

pub returns-clause-codes : goal.returns-clause-codes
returns-clause-codes c =
    let n = c.new-codes.ensures in
    gamma-coded _ c.args.text.now c.args.first.now c.args.row.now _ c.requires _ _ _ n.empty n.sound n.size c.note.ensures c.note_candidates.ensures _ c.count.ensures _ (search rules)

pub returns-clause-count : goal.returns-clause-count
returns-clause-count c =
    let n = c.new-codes.ensures in
    gamma-counted _ c.args.text.now c.args.first.now c.args.row.now _ c.requires _ _ _ n.empty n.sound n.size c.note.ensures c.note_candidates.ensures _ c.count.ensures
