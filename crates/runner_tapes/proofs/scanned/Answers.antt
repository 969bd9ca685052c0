-- The symbol of each tape is read where its head stands, by the number of tapes.
use mathlib.Core.Path.{refl}
use Rattle.runner_tapes.proofs.Cells.{reads_one, reads_two, reads_three}
use Rattle.runner_tapes.proofs.scanned.Goals as goal

pub returns-then-tapes-lt2 : goal.returns-then-tapes-lt2
returns-then-tapes-lt2 c = reads_one c.args.tapes c.args.half c.args.heads c.requires.0 c.args.cells.now _ c.if-tapes-lt2.true refl

pub returns-then-tapes-lt3 : goal.returns-then-tapes-lt3
returns-then-tapes-lt3 c =
    reads_two c.args.tapes c.args.half c.args.heads c.requires.0 c.args.cells.now _ c.if-tapes-lt2.false c.if-tapes-lt3.true refl refl

pub returns : goal.returns
returns c = reads_three c.args.tapes c.args.half c.args.heads c.requires.0 c.args.cells.now _ c.if-tapes-lt3.false refl refl refl
