-- The lines that are left go behind what is written.
use Rattle.std.proofs.Common.{arith}
use Rattle.form_lists.proofs.Lists.{names-all, names-next, names_here, lines_start, lines-on, lines_end}
use Rattle.form_lists.proofs.comment_lines.Goals as goal

pub loop-i-init : goal.loop-i-init
loop-i-init c = record { names = names-all _ _ _ _ c.requires; goes = lines_start _ _ _ _ _ }

pub comment-requires : goal.comment-requires
comment-requires c = names_here _ _ _ _ _ c.loop-i-test.true (omega arith) _ c.place_at.ensures c.loop-i.invariant.names

pub loop-i-preserved : goal.loop-i-preserved
loop-i-preserved c =
    let t = c.loop-i-test.true in
    let l = c.loop-i.invariant in
    record {
      names = names-next _ _ _ _ _ t l.names;
      goes = lines-on _ _ _ _ _ t (omega arith) _ c.place_at.ensures _ _ _ _ _ l.goes c.comment.ensures c.bytes.ensures;
    }

pub returns : goal.returns
returns c = lines_end _ _ _ _ _ _ _ _ c.loop-i-test.false c.loop-i.invariant.goes
