use Rattle.infer_symbols.proofs.AlphabetLaws.{line-put}
use Rattle.infer_symbols.proofs.glyphs.Symbols.put_line.Goals as goal

pub returns : goal.returns
returns c = line-put _ _ _ _ c.at-t.ensures c.put_range.ensures
