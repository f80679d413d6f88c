use Rattle.scenario_file.specs.Lines.{line_among}
use Rattle.scenario_file.proofs.ReadLaws.{mixed_over, plain_more}
use Rattle.scenario_file.proofs.outcomes.lines_among.Goals as goal

pub loop-call-preserved-then-targets_hostile : goal.loop-call-preserved-then-targets_hostile
loop-call-preserved-then-targets_hostile c =
    let l = c.loop-call in
    mixed_over (line_among c.args.domains.now) c.args.domains.now c.args.calls.now l.call-index c.call-item.result _ l.lines.items
    c.loop-call-test.true c.call-item.is c.targets_hostile.ensures c.if-targets_hostile.true l.invariant

pub loop-call-preserved : goal.loop-call-preserved
loop-call-preserved c =
    let l = c.loop-call in
    plain_more (line_among c.args.domains.now) c.args.domains.now c.args.calls.now l.call-index c.call-item.result _ l.lines.items _ c.in_ok-line_of.field-0
    c.loop-call-test.true c.call-item.is c.targets_hostile.ensures c.if-targets_hostile.false l.invariant c.in_ok-line_of.ensures c.in_ok-push.ensures.items
