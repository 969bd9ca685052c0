-- The lines go one behind the other, each from what the head and the run say.
use Rattle.runner_loop.proofs.Content.{head_says}
use Rattle.run_listing.proofs.Names.{state_part}
use Rattle.run_listing.proofs.Lines.{put_ended}
use Rattle.run_listing.proofs.ended.Goals as goal

pub returns : goal.returns
returns c =
    let read = c.requires.read in
    let says = head_says _ read.is_admitted c.args.machine.now.head read.head_is in
    put_ended _ _ c.args.machine.now.head says.tapes says.blank _ _ _ c.half-half.ensures c.tape_cells-own.ensures.0 _ (state_part _ read.is_admitted _ c.requires.work.state)
    c.bytes_line.ensures c.tapes.ensures c.stop.ensures c.steps.ensures c.nonblank.ensures c.state.ensures c.heads_and_tapes.ensures
