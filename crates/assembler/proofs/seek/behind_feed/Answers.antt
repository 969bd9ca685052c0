use Rattle.assembler.proofs.Rows.{seeking_on, seeking_here, seeking_done}
use Rattle.assembler.proofs.seek.behind_feed.Goals as goal

pub returns-then-is_feed : goal.returns-then-is_feed
returns-then-is_feed c = seeking_here _ _ _ _ c.loop-i.invariant c.args.tokens.now.within _ c.loop-i-test.true c.known.ensures _ c.is_feed.ensures c.if-is_feed.true

pub loop-i-preserved : goal.loop-i-preserved
loop-i-preserved c = seeking_on _ _ _ _ c.loop-i.invariant c.args.tokens.now.within _ c.loop-i-test.true c.known.ensures _ c.is_feed.ensures c.if-is_feed.false

pub returns : goal.returns
returns c = seeking_done _ _ _ _ c.loop-i.invariant c.args.tokens.now.within c.loop-i-test.false
