-- `lexer::block::line_part` meets its contract: the blocks before the first that is not
-- plain or ends in two spaces are passed over.
use Rattle.std.proofs.Common.{◌+◌, ◌*◌, rules, tests, sym, subst}
use Rattle.std.specs.Bool.{⊤}
use Rattle.std.proofs.lemmas.Iterator.{IsFirst-from_position, YieldsList-from_slice}
use Rattle.lexer.specs.Blocks.{LineBlock}
use Rattle.lexer.proofs.Scans.{Lined, trimmed_same}
use Rattle.lexer.proofs.Parts.{Parted, line-blocks}
use Rattle.lexer.proofs.block.line_part.Goals.{else-at-end-via-then-at-end+else-text-end-eq32, else-at-end-via-else-at-end}
use Rattle.lexer.proofs.block.line_part.Goals as goal

pub returns-then-text-at-clause-trimmed : goal.returns-then-text-at-clause-trimmed
returns-then-text-at-clause-trimmed c = trimmed_same _ _

pub returns-then-text-end-eq32 : goal.returns-then-text-end-eq32
returns-then-text-end-eq32 c =
    let t = c.args.text.now in
    let a = c.args.at in
    let p = IsFirst-from_position _ _ _ (λ _. ⊤) LineBlock c.position-other.ensures.ran (YieldsList-from_slice _ c.iter.ensures.rest) (λ x q k. tt) (λ x q k. (search rules, search (rules, tests))) in
    let s = subst (λ n. Parted t a (a + 8 * n)) (sym c.unwrap_or.ensures) (line-blocks t a (search rules) _ c.as_chunks.ensures.front c.as_chunks.ensures.front_len _ p) in
    let l = s.blank c.if-at-end.true c.if-text-end-eq32.true in
    record { end = l.end; trimmed = l.trimmed }

pub returns : goal.returns
returns c =
    let t = c.args.text.now in
    let a = c.args.at in
    let e = a + 8 * c.unwrap_or.result in
    let p = IsFirst-from_position _ _ _ (λ _. ⊤) LineBlock c.position-other.ensures.ran (YieldsList-from_slice _ c.iter.ensures.rest) (λ x q k. tt) (λ x q k. (search rules, search (rules, tests))) in
    let s = subst (λ n. Parted t a (a + 8 * n)) (sym c.unwrap_or.ensures) (line-blocks t a (search rules) _ c.as_chunks.ensures.front c.as_chunks.ensures.front_len _ p) in
    let l : Lined t a e e = elim c.else-at-end.branch [
      | else-at-end-via-then-at-end+else-text-end-eq32 w ↦ s.dark w.if-at-end.true w.if-text-end-eq32.false
      | else-at-end-via-else-at-end w ↦ s.from w.if-at-end.false
    ] in
    record { end = l.end; trimmed = l.trimmed }
