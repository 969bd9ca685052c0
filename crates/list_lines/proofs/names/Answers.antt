-- The names of the states that are left go behind those that are printed.
use Rattle.std.proofs.Common.{ap, sym, ◌∙◌, arith}
use Rattle.list_lines.specs.Listing.{named, names}
use Rattle.list_lines.proofs.Chain.{same}
use Rattle.std.proofs.lemmas.Bool.{or_left}
use Rattle.sheet_view.proofs.Records.{groups-start}
use Rattle.list_lines.proofs.Lists.{list_start, due_last, not_due, names-on, names-pass, names-end}
use Rattle.list_lines.proofs.names.Goals.{then-all, then-all-via-then-all, then-all-via-else-all+then-state, else-all+else-state}
use Rattle.list_lines.proofs.names.Goals as goal

pub loop-i-init : goal.loop-i-init
loop-i-init c = record { few = omega arith; goes = list_start 0x20 (ap (names c.args.text.now c.args.all) (groups-start 3 c.args.n c.args.states.now)) }

pub loop-i-preserved : goal.loop-i-preserved
loop-i-preserved c =
    let all = c.args.all in
    let state = c.state_at-state.ensures in
    elim c.if-all.branch [
      | then-all w ↦ record {
        few = omega arith;
        goes = rw (w.out-is, w.printed-is, c.after-rest.ensures)
            (names-on _ _ _ _ _ _ c.loop-i-test.true c.loop-i.invariant.goes
            (elim w.then-all.branch [
              | then-all-via-then-all v ↦ or_left _ _ v.if-all.true
              | then-all-via-else-all+then-state v ↦ due_last all _ (sym state.1 ∙ v.if-state.true)
            ])
            w.separator.ensures (same (ap (λ p. named c.args.text.now p) state.0) w.named.ensures));
      }
      | else-all+else-state w ↦ record {
        few = omega arith;
        goes = rw (w.out-is, w.printed-is, c.after-rest.ensures)
            (names-pass _ _ _ _ _ _ c.loop-i-test.true c.loop-i.invariant.goes (not_due all _ w.if-all.false (sym state.1 ∙ w.if-state.false)));
      }
    ]

pub returns : goal.returns
returns c = names-end _ _ _ _ _ _ c.loop-i-test.false c.loop-i.invariant.goes
