-- The pieces are appended one after the other; where all cells are blank, nothing stands behind the sign.
use Rattle.std.proofs.Common.{◌-◌, length, ap₂, ◌∙◌, ap, rules}
use Rattle.emit.proofs.Chain.{◌▹◌}
use Rattle.list_lines.specs.Puts.{Puts}
use Rattle.list_lines.proofs.Chain.{said, same}
use Rattle.run_lines.specs.Lines.{from_nonblank, to_nonblank, codes_from, tape_line}
use Rattle.run_lines.proofs.Ends.{nonblank_fewer}
use Rattle.run_lines.proofs.Lines.{shown_none, shown_some}
use Rattle.run_lines.proofs.tape.Goals.{then-not-is_empty, else-not-is_empty}
use Rattle.run_lines.proofs.tape.Goals as goal

pub overflow_sub-cells : goal.overflow_sub-cells
overflow_sub-cells c = rw c.from_nonblank-rest.ensures (nonblank_fewer c.args.blank c.args.cells.now)

pub returns : goal.returns
unfolding tape_line
returns c =
    let half = c.args.half in
    let cells = c.args.cells.now in
    let blank = c.args.blank in
    let rest = c.from_nonblank-rest.result.now in
    let shown = c.to_nonblank-shown.result.now in
    let middle : Puts (codes_from half (length cells - length rest) shown) c.bytes.new.self c.if-not-is_empty.out =
    elim c.if-not-is_empty.branch [
      | then-not-is_empty w ↦ rw w.out-is (shown_some half (length cells - length rest) shown (search rules) w.position.ensures w.codes.ensures)
      | else-not-is_empty w ↦ rw w.out-is (shown_none half (length cells - length rest) shown (search rules))
    ] in
    let is = c.from_nonblank-rest.ensures in
    said c.bytes.ensures ▹ same (ap₂ (λ m s. codes_from half (length cells - length m) s) is (c.to_nonblank-shown.ensures ∙ ap (to_nonblank blank) is)) middle ▹ said c.bytes-2.ensures
