use Rattle.std.proofs.Common.{◌≡◌, ◌∙◌, ◌++◌, ◌∷◌, [], List, ℕ, Some, ap, sym, subst, refl, map, length, get_or, append_assoc, arith}
use Rattle.std.specs.Vec.Iter.{into_iter_items}
use Rattle.std.specs.List.{AllZip as EachPair}
use Rattle.list_laws.proofs.Pairs.{pairs_push}
use Rattle.scenario_file.specs.declared.scenario.CallPlan.{CallPlan}
use Rattle.call_broker.specs.Domains.{place_of}
use Rattle.agent_queue.specs.Index.{IsFirst}
use Rattle.agent_queue.specs.Inside.{IsFresh}
use Rattle.agent_queue.proofs.FreshLaws.{as_long, first_at}
use Rattle.agent_queue.proofs.setup.queued.Goals as goal

pub index-target-requires : goal.index-target-requires
index-target-requires c =
    let split = sym (ap (λ l. c.loop-plan.yielded ++ l) c.in-Some.ensures.steps.0) ∙ c.loop-plan.invariant.left in
    let each = subst (λ (l : List CallPlan). EachPair (IsFirst (map (λ (x : CallPlan). x.to) l)) (map (λ (x : CallPlan). x.to) l) c.in_ok-targets.targets.items) c.deref.ensures.value c.in_ok-targets.ensures in
    let at = first_at c.args.calls.items c.loop-plan.yielded c.in-Some.plan (into_iter_items c.next.new.self) c.in_ok-targets.targets.items 0 split each in
    let long = as_long (map (λ (x : CallPlan). x.to) c.args.calls.items) c.loop-plan.yielded c.loop-plan.queued.items c.loop-plan.invariant.so_far in
    omega (arith, at.0, long, c.len-in-loop-plan.ensures, c.loop-plan.queued.ok.0, c.in_ok-targets.targets.ok.0)

pub loop-plan-preserved : goal.loop-plan-preserved
loop-plan-preserved c =
    let all = c.args.calls.items in
    let yielded = c.loop-plan.yielded in
    let plan = c.in-Some.plan in
    let rest = into_iter_items c.next.new.self in
    let target = c.index-target.result.now in
    let was = c.loop-plan.invariant in
    let to : List (List ℕ) = map (λ (x : CallPlan). x.to) all in
    let split = sym (ap (λ l. yielded ++ l) c.in-Some.ensures.steps.0) ∙ was.left in
    let each = subst (λ (l : List CallPlan). EachPair (IsFirst (map (λ (x : CallPlan). x.to) l)) (map (λ (x : CallPlan). x.to) l) c.in_ok-targets.targets.items) c.deref.ensures.value c.in_ok-targets.ensures in
    let at = first_at all yielded plan rest c.in_ok-targets.targets.items target split each in
    let place : length yielded ≡ c.len-in-loop-plan.result = omega (arith, as_long to yielded c.loop-plan.queued.items was.so_far, c.len-in-loop-plan.ensures, c.loop-plan.queued.ok.0) in
    let is_first : place_of to plan.to ≡ Some target = at.1 ∙ ap Some (ap (λ n. get_or c.in_ok-targets.targets.items n target) place ∙ sym c.index-target.ensures) in
    record {
      so_far = rw c.in_ok-push.ensures.items (pairs_push (IsFresh to) yielded c.loop-plan.queued.items plan _ was.so_far (record { plan = refl; given = c.of.ensures; target = is_first; waits = refl; closed = refl }));
      left = append_assoc yielded (plan ∷ []) rest ∙ split;
    }
