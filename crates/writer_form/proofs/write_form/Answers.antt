-- The form is counted on no row, refused where it does not fit, and else written with the same body.
use Rattle.std.proofs.Common.{arith}
use Rattle.form_theorems.proofs.Answers.{read-formed}
use Rattle.form_theorems.proofs.Bounds.{form_fits}
use Rattle.writer_form.proofs.Forms.{too_short, form_stands}
use Rattle.writer_form.proofs.write_form.Goals as goal

pub plain_form-n-requires : goal.plain_form-n-requires
plain_form-n-requires c = read-formed c.args.text.now c.args.head c.args.sheet.now c.requires

pub returns-then-room-n : goal.returns-then-room-n
returns-then-room-n c =
    let fits = form_fits _ _ _ c.requires (omega arith) (omega arith) (omega arith) (omega arith) (omega arith) (omega arith) in
    too_short _ _ _ c.requires fits _ _ c.plain_form-n.ensures _ _ c.min-room.ensures c.if-room-n.true

pub plain_form-m-requires : goal.plain_form-m-requires
plain_form-m-requires c = read-formed c.args.text.now c.args.head c.args.sheet.now c.requires

pub returns : goal.returns
returns c =
    let fits = form_fits _ _ _ c.requires (omega arith) (omega arith) (omega arith) (omega arith) (omega arith) (omega arith) in
    form_stands _ _ _ c.requires fits _ _ c.plain_form-n.ensures _ _ c.min-room.ensures c.if-room-n.false _ _ c.plain_form-m.ensures (omega arith)
