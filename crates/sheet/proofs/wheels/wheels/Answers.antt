-- The entries that are stored and those that come next are all.
use Rattle.std.proofs.Common.{arith, inl, inr}
use Rattle.sheet.proofs.CommentLaws.{many}
use Rattle.sheet.proofs.WheelLaws.{filling_on, filled}
use Rattle.sheet.proofs.wheels.wheels.Goals as goal

pub loop-t-preserved : goal.loop-t-preserved
loop-t-preserved c =
    filling_on _ _ _ _ _ _ _ _ c.loop-t.invariant (many c.args.tokens.now) _ _ c.loop-t-test.true c.if-i-tokens.true (omega (arith, c.requires.entries, c.loop-t.auto.entries))
    (omega (arith, c.requires.members, c.loop-t.auto.members)) c.first_member.ensures c.next_entry-i.ensures

pub returns-else-i-tokens : goal.returns-else-i-tokens
returns-else-i-tokens c =
    let rows = filled _ _ _ _ _ _ _ _ c.loop-t.invariant (many c.args.tokens.now) (inr c.if-i-tokens.false) in
    record { entries = rows.0; members = rows.1; few = c.loop-t.invariant.few }

pub returns-after-loop-t : goal.returns-after-loop-t
returns-after-loop-t c =
    let rows = filled _ _ _ _ _ _ _ _ c.loop-t.invariant (many c.args.tokens.now) (inl c.loop-t-test.false) in
    record { entries = rows.0; members = rows.1; few = c.loop-t.invariant.few }
