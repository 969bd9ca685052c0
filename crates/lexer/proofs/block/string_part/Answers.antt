-- `lexer::block::string_part` meets its contract: the blocks before the first that has a mark are passed over.
use Rattle.std.proofs.Common.{◌≡◌, ◌+◌, ◌*◌, false, refl, rules, tests, sym, subst, drop}
use Rattle.std.specs.Bool.{⊤}
use Rattle.std.proofs.lemmas.Iterator.{IsFirst-from_position, YieldsList-from_slice}
use Rattle.chars.specs.Utf8.{decode}
use Rattle.lexer.specs.Places.{string_end}
use Rattle.lexer.proofs.Parts.{AllInner, string-blocks}
use Rattle.lexer.proofs.block.string_part.Goals as goal

pub returns : goal.returns
returns c =
    let t = c.args.text.now in
    let a = c.args.at in
    let p = IsFirst-from_position _ _ _ (λ _. ⊤) AllInner c.position-other.ensures.ran (YieldsList-from_slice _ c.iter.ensures.rest) (λ x q k. tt) (λ x q k. (search rules, λ j l. search (rules, tests))) in
    let e = string-blocks t a _ (search rules) _ c.as_chunks.ensures.front c.as_chunks.ensures.front_len refl _ p in
    subst (λ n. string_end false (a + 8 * n) (decode (drop (a + 8 * n) t)) ≡ string_end false a (decode (drop a t))) (sym c.unwrap_or.ensures) e
