-- The names that are left go behind what is written.
use Rattle.std.proofs.Common.{arith}
use Rattle.form_lists.proofs.Lists.{names-all, names-next, names_here}
use Rattle.form_lists.proofs.Finals.{finals-start, finals-not, finals-on, finals-end}
use Rattle.form_lists.proofs.final_names.Goals as goal
use Rattle.form_lists.proofs.final_names.Goals.{then-state, else-state}

pub loop-i-init : goal.loop-i-init
loop-i-init c = record { few = omega arith; names = names-all _ _ _ _ c.requires; goes = finals-start _ _ _ _ }

pub verbatim-requires : goal.verbatim-requires
verbatim-requires c = names_here _ _ _ _ _ c.loop-i-test.true (omega arith) _ c.state_at-state.ensures.0 c.loop-i.invariant.names

pub loop-i-preserved : goal.loop-i-preserved
loop-i-preserved c =
    let t = c.loop-i-test.true in
    let l = c.loop-i.invariant in
    let state = c.state_at-state.ensures in
    elim c.if-state.branch [
      | then-state w ↦ record {
        few = omega (arith, w.count-is, l.few);
        names = names-next _ _ _ _ _ t l.names;
        goes = rw (w.count-is, w.out-is) (finals-on _ _ _ _ t _ state.1 _ _ _ _ l.goes _ _ _ w.if-state.true state.0 w.comma.ensures w.verbatim.ensures);
      }
      | else-state w ↦ record {
        few = omega (arith, w.count-is, l.few);
        names = names-next _ _ _ _ _ t l.names;
        goes = rw (w.count-is, w.out-is) (finals-not _ _ _ _ t _ state.1 _ _ _ _ l.goes w.if-state.false);
      }
    ]

pub returns : goal.returns
returns c = finals-end _ _ _ _ _ _ _ _ c.loop-i-test.false c.loop-i.invariant.goes
