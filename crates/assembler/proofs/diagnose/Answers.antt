use borrow.Author.Rules.{rules}
use Rattle.assembler.proofs.AssembledLaws.{declarations_room, finals_room, diagnosed}
use Rattle.assembler.proofs.diagnose.Goals as goal

pub declared-requires-clause-room : goal.declared-requires-clause-room
declared-requires-clause-room c = declarations_room c.args.text.now _ c.args.work.now c.args.row.now c.requires.0.0 _ _ c.new-log.ensures.none c.failed.ensures

pub finals_and_rules-requires-clause-room : goal.finals_and_rules-requires-clause-room
finals_and_rules-requires-clause-room c = finals_room c.args.text.now _ c.args.work.now c.args.row.now c.requires.0.0 _ _ c.new-log.ensures.none c.failed.ensures _ c.declared.ensures

pub returns : goal.returns
returns c = diagnosed c.args.text.now _ c.args.work.now c.args.row.now c.requires.0.0 _ _ c.new-log.ensures.none c.failed.ensures _ c.declared.ensures _ c.survey-counts.ensures.declared _ _ _ _ _ c.survey-counts.ensures.rules c.finals_and_rules.ensures.kept c.finals_and_rules.ensures.named c.finals_and_rules.ensures.log c.count.ensures (search rules)
