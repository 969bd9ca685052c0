use Rattle.std.proofs.Common.{◌≡◌}
use Rattle.infer.specs.Page.{indices_in}
use Rattle.infer.specs.Names.{row_of}
use Rattle.infer.specs.States.{list_finals}
use Rattle.infer.proofs.Pages.{indices_at}
use Rattle.infer.proofs.names.Names.list_finals.Given as goal

abbrev pub invariant-loop-x : goal.invariant-loop-x
invariant-loop-x l =
    let firsts = l.self.firsts.now in
    let ts = row_of l.self in
    list_finals firsts ts l.marks (indices_at ts l.x) ≡ list_finals firsts ts l.fn.marks (indices_in ts l.line)
