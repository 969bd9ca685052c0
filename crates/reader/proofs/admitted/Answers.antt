-- The text is assembled, and its diagnostics reported or its machine written.
use Rattle.std.proofs.Common.{rules, []}
use Rattle.reader.proofs.Calls.{short, tokenize_room, tokenized, report_room, report_outcome, report-work, machine-ready, machine_is, machine-work}
use Rattle.reader.proofs.admitted.Goals as goal

pub tokenize-count-requires : goal.tokenize-count-requires
tokenize-count-requires c = (short _ _ c.requires, tokenize_room _ _ c.requires)

pub assemble-a-requires : goal.assemble-a-requires
assemble-a-requires c = search (rules, tokenized)

pub report-requires : goal.report-requires
report-requires c = report_room _ _ c.requires _ _ c.tokenize-count.ensures.0 c.tokenize-count.ensures.1 c.args.log.now [] _ _ _ c.assemble-a.ensures

pub returns-then-faulty : goal.returns-then-faulty
returns-then-faulty c =
    let r = c.report.ensures in (
      report_outcome _ _ c.requires _ _ c.tokenize-count.ensures.0 c.tokenize-count.ensures.1 _ _ _ _ _ c.assemble-a.ensures (search rules) _ _ _ (c.fill.ensures.after (λ _ e. e)) r.0 r.1,
      report-work _ _ _ r.0,
    )

pub machine-requires : goal.machine-requires
machine-requires c = record {
  ready = machine-ready _ _ c.requires _ _ c.tokenize-count.ensures.0 c.tokenize-count.ensures.1 c.args.log.now [] _ _ _ c.assemble-a.ensures (search rules);
  rules = c.assemble-a.ensures.rules;
}

pub returns : goal.returns
returns c = (
  machine_is _ _ c.requires _ _ c.tokenize-count.ensures.0 c.tokenize-count.ensures.1 _ _ _ _ _ c.assemble-a.ensures (search rules) _ _ _ (c.fill-2.ensures.after (λ _ e. e)) c.machine.ensures,
  machine-work c.machine.result _ _ _ c.machine.ensures,
)
