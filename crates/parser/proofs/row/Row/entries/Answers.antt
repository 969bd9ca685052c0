use Rattle.parser.proofs.Lists.{handed, entry_failed, list-failed, list_last, list_again, list_falls, list_few}
use Rattle.parser.proofs.row.Row.entries.Goals as goal

pub returns-in_err-j : goal.returns-in_err-j
returns-in_err-j g c = λ p q.
    handed _ _ _ c.from_residual.ensures.1
    (entry_failed p c.args.close c.args.self.words.now c.loop-entry.i c.loop-entry.n _ (c.loop-entry.invariant.1 p q) q.steps c.requires.sign _ (q.reads _ _ c.entry.ensures) _ c.in_err-j.was)

pub returns-in_err-next : goal.returns-in_err-next
returns-in_err-next g c = λ p q.
    handed _ _ _ c.from_residual-in_err-next.ensures.1
    (list-failed p c.args.close c.args.self.words.now c.loop-entry.i c.loop-entry.n _ (c.loop-entry.invariant.1 p q) q.steps c.requires.sign _ (q.reads _ _ c.entry.ensures) _ _ c.in_ok-j.was _
    c.separator.ensures _ c.in_err-next.was)

pub returns-then-more-eq0 : goal.returns-then-more-eq0
returns-then-more-eq0 g c = λ p q.
    list_last p c.args.close c.args.self.words.now c.loop-entry.i c.loop-entry.n _ (c.loop-entry.invariant.1 p q) q.steps c.requires.sign _ (q.reads _ _ c.entry.ensures) _ _ c.in_ok-j.was _
    c.separator.ensures _ _ c.in_ok-next.was c.if-more-eq0.true

pub loop-entry-smaller : goal.loop-entry-smaller
loop-entry-smaller g c =
    let p = c.requires.reads.0 in
    let q = c.requires.reads.1 in
    list_falls p c.args.close c.args.self.words.now c.loop-entry.i c.loop-entry.n _ (c.loop-entry.invariant.1 p q) q.steps c.requires.sign _ (q.reads _ _ c.entry.ensures) _ _ c.in_ok-j.was _
    c.separator.ensures _ _ c.in_ok-next.was

pub loop-entry-preserved : goal.loop-entry-preserved
loop-entry-preserved g c =
    let p = c.requires.reads.0 in
    let q = c.requires.reads.1 in (
      list_few p c.args.close c.args.self.words.now c.loop-entry.i c.loop-entry.n _ (c.loop-entry.invariant.1 p q) q.steps c.requires.sign _ (q.reads _ _ c.entry.ensures) _ _ c.in_ok-j.was _
          c.separator.ensures _ _ c.in_ok-next.was c.loop-entry.invariant.0,
      λ p q.
          list_again p c.args.close c.args.self.words.now c.loop-entry.i c.loop-entry.n _ (c.loop-entry.invariant.1 p q) q.steps c.requires.sign _ (q.reads _ _ c.entry.ensures) _ _ c.in_ok-j.was _
          c.separator.ensures _ _ c.in_ok-next.was c.if-more-eq0.false,
    )
