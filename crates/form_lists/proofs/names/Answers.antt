-- The names that are left go behind what is written.
use Rattle.std.proofs.Common.{arith}
use Rattle.form_lists.proofs.Lists.{names-all, names-next, names_here, list-start, list_on, list-end}
use Rattle.form_lists.proofs.names.Goals as goal

pub loop-i-init : goal.loop-i-init
loop-i-init c = record { names = names-all _ _ _ _ c.requires; goes = list-start _ _ _ _ _ }

pub verbatim-requires : goal.verbatim-requires
verbatim-requires c = names_here _ _ _ _ _ c.loop-i-test.true (omega arith) _ c.state_at.ensures.0 c.loop-i.invariant.names

pub loop-i-preserved : goal.loop-i-preserved
loop-i-preserved c =
    let t = c.loop-i-test.true in
    let l = c.loop-i.invariant in
    record {
      names = names-next _ _ _ _ _ t l.names;
      goes = list_on _ _ _ _ _ t (omega arith) _ c.state_at.ensures.0 _ _ _ _ _ l.goes c.comma.ensures c.verbatim.ensures;
    }

pub returns : goal.returns
returns c = list-end _ _ _ _ _ _ _ _ c.loop-i-test.false c.loop-i.invariant.goes
