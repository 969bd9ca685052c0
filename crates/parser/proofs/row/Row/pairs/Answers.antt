-- `parser::row::Row::pairs` meets its contract: the blocks of two tokens before the first that is no pair are pairs.
use Rattle.std.proofs.Common.{◌≡◌, ◌+◌, ◌*◌, ◌^◌, ◌<◌, true, arith, rules, tests, sym, subst}
use Rattle.std.specs.Bool.{⊤}
use Rattle.std.proofs.lemmas.Iterator.{IsFirst-from_position, YieldsList-from_slice}
use Rattle.parser.specs.Row.{tokens_in}
use Rattle.parser.specs.Views.{is_pair, Pairs}
use Rattle.parser.proofs.Laws.{length-tokens}
use Rattle.parser.proofs.Pairs.{pairs-blocks}
use Rattle.parser.proofs.row.Row.pairs.Goals as goal

pub returns : goal.returns
returns c =
    let w = c.args.self.words.now in
    let a = c.args.at in
    let p = IsFirst-from_position _ _ _ (λ _. ⊤) (λ b. is_pair (tokens_in b) 0 ≡ true) c.position-other.ensures.ran (YieldsList-from_slice _ c.iter.ensures.rest) (λ x q k. tt) (λ x q k. search (rules, tests)) in
    let s = pairs-blocks w a (search rules) _ c.as_chunks.ensures.front c.as_chunks.ensures.front_len _ p in
    subst (λ n. Pairs (tokens_in w) a n × (a + 2 * n < 2 ^ 64)) (sym c.unwrap_or.ensures) (s, omega (arith, s.inside, length-tokens w))
