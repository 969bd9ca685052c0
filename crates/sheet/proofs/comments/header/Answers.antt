-- What the lines from here on put there is left.
use Rattle.std.proofs.Common.{not, ap, sym, ◌∙◌}
use Rattle.sheet.proofs.CommentLaws.{many, inside, past, feeding_start, feeding_here, feeding_quiet, feeding_on, heading_start, heading_on, heading_seen, heading_last, passing_start, passing_on, passing_end}
use Rattle.sheet.proofs.RowLaws.{adding_start, adding_fits, adding_on, added}
use Rattle.sheet.proofs.comments.header.Goals as goal

pub loop-i-init : goal.loop-i-init
loop-i-init c = record { feeding = feeding_start _ c.requires.fed c.requires.last; heading = heading_start _ _; passing = passing_start _; adding = adding_start _ }

pub header_of-requires : goal.header_of-requires
header_of-requires c = feeding_quiet _ _ c.loop-i.invariant.feeding _ c.known-t.ensures (inside c.args.tokens.now _ c.loop-i-test.true)

pub overflow_add-rules : goal.overflow_add-rules
overflow_add-rules c =
    adding_fits _ _ _ _ c.loop-i.invariant.adding _ (inside c.args.tokens.now _ c.loop-i-test.true) c.known-t.ensures _ c.line_length-rules.ensures c.requires.lengths

pub behind_line-i-requires-clause-fed : goal.behind_line-i-requires-clause-fed
behind_line-i-requires-clause-fed c =
    feeding_here _ _ c.loop-i.invariant.feeding _ c.known-t.ensures (inside c.args.tokens.now _ c.loop-i-test.true)

pub loop-i-preserved : goal.loop-i-preserved
loop-i-preserved c =
    let here = inside c.args.tokens.now _ c.loop-i-test.true in
    let l = c.loop-i.invariant in
    let t = c.known-t.ensures in
    let p = c.passed-left.ensures in
    let j = c.behind_line-i.ensures in
    record {
      feeding = feeding_on _ _ l.feeding _ t here _ j;
      heading = heading_on _ _ _ _ here t _ _ p j _ _ _ l.heading c.header_of.ensures;
      passing = passing_on _ _ _ _ here t _ _ p j l.passing;
      adding = adding_on _ _ _ _ l.adding _ here t _ c.line_length-rules.ensures _ _ p j;
    }

pub returns-then-is_none : goal.returns-then-is_none
returns-then-is_none c =
    let end = past c.args.tokens.now _ c.loop-i-test.false in
    record {
      written = heading_last _ _ _ end _ _ c.loop-i.invariant.heading _ _ (c.is_none.ensures ∙ ap not c.if-is_none.true) (sym (many c.args.tokens.now)) c.comments.ensures;
      left = passing_end _ _ _ end c.loop-i.invariant.passing;
      rules = added _ _ _ _ c.loop-i.invariant.adding end;
    }

pub returns-else-is_none : goal.returns-else-is_none
returns-else-is_none c =
    let end = past c.args.tokens.now _ c.loop-i-test.false in
    record {
      written = heading_seen _ _ _ end _ _ c.loop-i.invariant.heading (c.is_none.ensures ∙ ap not c.if-is_none.false);
      left = passing_end _ _ _ end c.loop-i.invariant.passing;
      rules = added _ _ _ _ c.loop-i.invariant.adding end;
    }
