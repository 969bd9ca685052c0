-- The sections and the rules behind them are the machine's sheet, or need more words than it has.
use Rattle.std.proofs.Common.{rules}
use Rattle.reader.proofs.SheetLaws.{words_room, parted, needed_fits, too_short, clear_room, cleared_behind, whole}
use Rattle.reader.proofs.written.machine.Goals as goal

pub invariant_of-tokens : goal.invariant_of-tokens
invariant_of-tokens c = record { within = words_room _ _ _ _ c.requires _ c.split_at_mut-words.ensures.front_len }

pub overflow_add-needed : goal.overflow_add-needed
overflow_add-needed c =
    let k = c.split_at_mut-words.ensures in
    let s = c.sections-rules.ensures in
    record { fits = needed_fits _ _ (parted c.args.text _ _ _ c.args.a _ c.requires k.front k.back) _ c.blank_at-blank.ensures _ _ _ c.new-page.ensures.holds s.written _ c.at.ensures _ s.lengths }

pub returns-then-room-needed : goal.returns-then-room-needed
returns-then-room-needed c l =
    let k = c.split_at_mut-words.ensures in
    let s = c.sections-rules.ensures in
    too_short _ _ (parted c.args.text _ _ _ c.args.a _ c.requires k.front k.back) _ c.blank_at-blank.ensures _ _ _ c.new-page.ensures.holds s.written _ c.at.ensures _ s.lengths c.if-room-needed.true _ _ (search rules) (c.fill.ensures.after (λ _ e. e)) l

pub returns : goal.returns
returns c l =
    let k = c.split_at_mut-words.ensures in
    let s = c.sections-rules.ensures in
    let fits = clear_room _ _ (parted c.args.text _ _ _ c.args.a _ c.requires k.front k.back) _ c.blank_at-blank.ensures _ _ _ c.new-page.ensures.holds s.written _ c.at.ensures _ s.lengths c.if-room-needed.false _ c.rules.ensures _ (search rules) in
    whole _ _ (parted c.args.text _ _ _ c.args.a _ c.requires k.front k.back) _ c.blank_at-blank.ensures _ _ _ c.new-page.ensures.holds s.written _ c.at.ensures _ s.lengths c.if-room-needed.false _ c.rules.ensures _ (search rules) _ _ _
    s.counts c.first_state-state.ensures c.head-head.ensures _ (cleared_behind _ _ _ fits (c.fill-2.ensures.after (λ _ e. e))) l
