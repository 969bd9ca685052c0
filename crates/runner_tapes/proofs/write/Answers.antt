-- The cell of each tape is written where its head stands, by the number of tapes.
use Rattle.runner_tapes.proofs.Cells.{writes_one, writes_two, writes_three}
use Rattle.runner_tapes.proofs.write.Goals as goal

pub returns-then-tapes-lt2 : goal.returns-then-tapes-lt2
returns-then-tapes-lt2 c = writes_one c.args.tapes c.args.half c.args.heads c.requires.0 c.args.cells.now c.args.symbols c.if-tapes-lt2.true

pub returns-then-tapes-lt3 : goal.returns-then-tapes-lt3
returns-then-tapes-lt3 c =
    writes_two c.args.tapes c.args.half c.args.heads c.requires.0 c.args.cells.now c.args.symbols c.if-tapes-lt2.false c.if-tapes-lt3.true

pub returns : goal.returns
returns c = writes_three c.args.tapes c.args.half c.args.heads c.requires.0 c.args.cells.now c.args.symbols c.if-tapes-lt3.false
