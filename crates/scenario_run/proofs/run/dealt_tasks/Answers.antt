use Rattle.std.proofs.Common.{length, map, arith}
use Rattle.vchan_rule.specs.Seated.{view}
use Rattle.scenario_run.proofs.AnswerLaws.{answers_are}
use Rattle.scenario_run.proofs.DealtLaws.{controls_fit, hands_fit}
use Rattle.scenario_run.proofs.run.dealt_tasks.Goals as goal

pub tasks-requires-clause-controls : goal.tasks-requires-clause-controls
tasks-requires-clause-controls c = controls_fit c.args.scenario.now c.args.pages.now c.in_ok-dealt.dealt.controls.items c.requires.laid c.in_ok-dealt.ensures.controls c.in_ok-dealt.ensures.as_many

pub tasks-requires-clause-hands : goal.tasks-requires-clause-hands
tasks-requires-clause-hands c = hands_fit c.args.scenario.now c.args.pages.now c.in_ok-dealt.dealt.hands.items c.requires.laid c.in_ok-dealt.ensures.hands c.in_ok-dealt.ensures.orders c.in_ok-dealt.ensures.all

pub returns : goal.returns
returns c = record {
  controls = map view c.in_ok-dealt.dealt.controls.items;
  hands = c.in_ok-dealt.dealt.hands.items;
  of = c.in_ok-tasks.ensures;
  answers = λ dones owes. answers_are c.args.scenario.now c.args.pages.now c.in_ok-dealt.dealt.controls.items c.in_ok-dealt.dealt.hands.items c.in_ok-tasks.field-0.items dones
      c.requires.laid c.in_ok-dealt.ensures.controls c.in_ok-dealt.ensures.hands c.in_ok-dealt.ensures.as_many c.in_ok-dealt.ensures.all c.in_ok-tasks.ensures owes;
  few = (let few = c.is_scenario.ensures.few_domains in let count = c.in_ok-tasks.ensures.count in let all = c.in_ok-dealt.ensures.all in omega arith);
}
