use Rattle.scenario_file.specs.Lines.{call_left}
use Rattle.scenario_file.proofs.ReadLaws.{mixed_over, plain_more}
use Rattle.scenario_file.proofs.without.calls_left.Goals as goal

pub loop-call-preserved-then-targets_hostile : goal.loop-call-preserved-then-targets_hostile
loop-call-preserved-then-targets_hostile c =
    let l = c.loop-call in
    mixed_over (call_left c.args.domains.now) c.args.domains.now c.args.calls.now l.call-index c.call-item.result _ l.left.items
    c.loop-call-test.true c.call-item.is c.targets_hostile.ensures c.if-targets_hostile.true l.invariant

pub loop-call-preserved : goal.loop-call-preserved
loop-call-preserved c =
    let l = c.loop-call in
    plain_more (call_left c.args.domains.now) c.args.domains.now c.args.calls.now l.call-index c.call-item.result _ l.left.items _ c.in_ok-call_left.field-0
    c.loop-call-test.true c.call-item.is c.targets_hostile.ensures c.if-targets_hostile.false l.invariant c.in_ok-call_left.ensures c.in_ok-push.ensures.items
