use Rattle.std.proofs.Common.{◌≡◌, ◌∙◌, ◌++◌, ◌∷◌, [], ap, arith, map, subst, sym}
use Rattle.vchan_rule.specs.Seated.{view}
use Rattle.scenario_run.proofs.TaskLaws.{AreLeft, left_first, left_hand, left_none, left_on}
use Rattle.scenario_run.proofs.tasks.tasks.Goals as goal

pub loop-hand-init : goal.loop-hand-init
loop-hand-init c =
    let s = c.args.scenario.now in
    let controls = map view c.args.dealt.controls.items in
    let hands = c.args.dealt.hands.items in
    subst (AreLeft s controls hands c.push.new.self.items 1) (sym c.into_iter-hand-iterator.ensures.into_iter_gives.0)
    (left_first s controls hands c.push.new.self.items c.requires.hands
    (c.in_ok-push.ensures.items ∙ ap (λ l. l ++ c.new.result ∷ []) c.in_ok-tasks.ensures.items ∙ ap (λ g. g ∷ []) c.new.ensures))

pub new-requires-in-loop-hand : goal.new-requires-in-loop-hand
new-requires-in-loop-hand c =
    let many = c.len-in-loop-hand.ensures in
    let next = left_hand c.args.scenario.now _ _ _ c.loop-hand.number _ _ c.in-Some.hand c.in-Some.ensures.steps.0 c.loop-hand.invariant in
    ((c.loop-hand.invariant.some, next.0), next.1, (c.in_ok-retired-2.ensures.items, omega (arith, c.in_ok-retired-2.ensures.capacity, many, c.in-Some.hand.payload.ok.0)))

pub loop-hand-preserved : goal.loop-hand-preserved
loop-hand-preserved c =
    let tasks = c.loop-hand.tasks.items in
    let more : c.push-in-loop-hand.new.self.items ≡ tasks ++ c.new-in-loop-hand.result ∷ [] = c.in_ok-push-2.ensures.items in
    left_on c.args.scenario.now (map view c.args.dealt.controls.items) c.args.dealt.hands.items tasks c.push-in-loop-hand.new.self.items c.loop-hand.number _ _ c.in-Some.hand
    c.in-Some.ensures.steps.0 (more ∙ ap (λ g. tasks ++ g ∷ []) c.new-in-loop-hand.ensures) c.loop-hand.invariant

pub returns : goal.returns
returns c = left_none c.args.scenario.now (map view c.args.dealt.controls.items) c.args.dealt.hands.items c.loop-hand.tasks.items c.loop-hand.number c.loop-hand.hand-iterator c.in-None.ensures.steps.0 c.loop-hand.invariant
