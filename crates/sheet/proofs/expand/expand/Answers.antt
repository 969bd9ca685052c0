-- The first rule of a line is put, and then those of the choices behind.
use Rattle.std.proofs.Common.{arith, ap, ◌∙◌, map, ◌≤◌, length}
use Rattle.tokens.specs.Listed.{tokens_of}
use Rattle.sheet.specs.Wheels.{first_member}
use Rattle.sheet.proofs.ExpandLaws.{entries_are, line_fits, line_put}
use Rattle.sheet.proofs.expand.expand.Goals as goal

pub put-requires : goal.put-requires
put-requires c =
    let fits =
    line_fits _ _ _ _ _ c.at-r.ensures.parts c.wheels-n.ensures.few c.at-r.ensures.small.0 c.at-r.ensures.small.1 c.requires.line.1 c.requires.line.0 in
    record { placed = fits.0; members = fits.1 _ (omega (arith, c.requires.wheels.1, c.wheels-n.auto.members)) }

pub choices-requires : goal.choices-requires
choices-requires c =
    let fits =
    line_fits _ _ _ _ _ c.at-r.ensures.parts c.wheels-n.ensures.few c.at-r.ensures.small.0 c.at-r.ensures.small.1 c.requires.line.1 c.requires.line.0 in
    record {
      placed = fits.0;
      wheels = (
        fits.1 _ (omega (arith, c.requires.wheels.0, c.wheels-n.auto.entries)),
        fits.1 _ (omega (arith, c.requires.wheels.1, c.wheels-n.auto.members)),
      );
    }

pub returns : goal.returns
returns c =
    let read = entries_are _ _ _ _ c.at-sets.ensures c.first_entry-first.ensures in
    let room : c.args.tokens.now.count ≤ length c.wheels-n.new.entries = omega (arith, c.requires.wheels.0, c.wheels-n.auto.entries) in
    line_put _ _ _ _ _ _ (c.wheels-n.ensures.entries ∙ read) c.wheels-n.ensures.few room _ c.at-r.ensures.parts _ _ _ _ _ _
    (c.wheels-n.ensures.members ∙ ap (map (first_member (tokens_of c.args.tokens.now))) read) c.own_place-c.ensures c.put.ensures c.choices.ensures
