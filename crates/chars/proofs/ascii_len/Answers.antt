-- The iterator gives the text's bytes, so that `position` answers what the definition does.
use Rattle.std.proofs.Common.{ap, ◌∙◌, rules, tests, length, leb}
use Rattle.std.specs.Prelude.{unwrap_or}
use Rattle.std.proofs.lemmas.Iterator.{YieldsList-from_slice}
use Rattle.std.proofs.lemmas.Iterator.Search.{position_from_yields_List}
use Rattle.chars.proofs.ascii_len.Goals as goal

pub returns-clause-first : goal.returns-clause-first
returns-clause-first c =
    let t = c.args.text.now in
    let p = position_from_yields_List (leb 0x80) _ _ c.position.result c.position.ensures.ran (YieldsList-from_slice t cc) (λ x b q k. search (rules, tests)) in
    c.unwrap_or.ensures ∙ ap (λ o. unwrap_or o (length t)) p
