use Rattle.assembler.proofs.DeclarationLaws.{declaring_start, declaring_room, declaring_on, declared-end, declaring_end}
use Rattle.assembler.proofs.declarations.declarations.Goals as goal

pub loop-at-init : goal.loop-at-init
loop-at-init c = declaring_start _ _ _ _ c.requires.fed

pub declaration-requires-clause-room : goal.declaration-requires-clause-room
declaration-requires-clause-room c = declaring_room _ _ _ _ _ _ _ _ c.loop-at.invariant c.args.tokens.now.within c.loop-at-test.true c.requires.room

pub loop-at-preserved : goal.loop-at-preserved
loop-at-preserved c = declaring_on _ _ _ _ _ _ _ _ c.loop-at.invariant c.args.tokens.now.within _ _ _ c.loop-at-test.true c.declaration.ensures.first c.declaration.ensures.log c.behind_feed-at.ensures

pub returns-clause-first : goal.returns-clause-first
returns-clause-first c = declared-end _ _ _ _ _ _ _ _ c.loop-at.invariant c.args.tokens.now.within c.loop-at-test.false

pub returns-clause-log : goal.returns-clause-log
returns-clause-log c = declaring_end _ _ _ _ _ _ _ _ c.loop-at.invariant c.args.tokens.now.within c.loop-at-test.false
