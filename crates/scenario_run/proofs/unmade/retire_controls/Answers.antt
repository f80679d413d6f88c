use Rattle.std.proofs.Common.{◌≡◌, ◌+◌, List, [], ◌∷◌, ap, length, map, sym, subst, arith}
use Rattle.std.specs.Vec.Iter.{into_iter_items}
use Rattle.std.proofs.lemmas.Grind.{common_steps}
use Rattle.std.specs.List.{AllByRecursion as Each}
use Rattle.vchan_rule.specs.Seated.{SeatedEnd, view}
use Rattle.task_duties.specs.declared.place.PagePlace.TheVariants.{Control}
use Rattle.task_duties.specs.TaskOwes.{broker_ends}
use Rattle.broker_task.specs.Given.{IsNewClient}
use Rattle.scenario_run.proofs.UnmadeLaws.{IsGivingBack, giving_first, giving_none, giving_on}
use Rattle.scenario_run.proofs.unmade.retire_controls.Goals as goal

pub loop-control-init : goal.loop-control-init
loop-control-init c =
    let all : into_iter_items c.into_iter-control-iterator.result ≡ c.args.controls.items = c.into_iter-control-iterator.ensures.into_iter_gives.0 in
    let count : length (into_iter_items c.into_iter-control-iterator.result) ≡ length c.args.controls.items = ap length all in
    let none = ap length c.requires.empty in record {
      unused = subst (λ (l : List SeatedEnd). Each IsNewClient l) (sym all) c.requires.unused;
      count = omega (arith, count);
      room = omega (arith, count, none, c.requires.room);
      giving = subst (λ (l : List SeatedEnd). IsGivingBack (broker_ends 1 (map view c.args.controls.items)) (broker_ends 1 (map view l)) c.args.retired.items) (sym all)
          (giving_first (broker_ends 1 (map view c.args.controls.items)) c.args.retired.items c.requires.empty);
    }

pub loop-control-preserved : goal.loop-control-preserved
loop-control-preserved c =
    let rest : into_iter_items c.loop-control.control-iterator ≡ c.in-Some.control ∷ into_iter_items c.next.new.self = c.in-Some.ensures.steps.0 in
    let given = broker_ends 1 (map view c.args.controls.items) in
    let domain = c.loop-control.domain + 1 in record {
      unused = (subst (λ (l : List SeatedEnd). Each IsNewClient l) rest c.loop-control.invariant.unused).1;
      count = grind (arith, common_steps);
      room = grind (arith, common_steps);
      giving = giving_on given (broker_ends (domain + 1) (map view (into_iter_items c.next.new.self))) (record { place = Control domain; view = view c.in-Some.control }) c.loop-control.retired.items c.push_reserved.new.self.items c.retire_control.result
          c.push_reserved.ensures.items c.retire_control.ensures.same c.retire_control.ensures.honest
          (subst (λ (l : List SeatedEnd). IsGivingBack given (broker_ends domain (map view l)) c.loop-control.retired.items) rest c.loop-control.invariant.giving);
    }

pub returns : goal.returns
returns c =
    let over : into_iter_items c.loop-control.control-iterator ≡ [] = grind (arith, common_steps) in
    let domain = c.loop-control.domain + 1 in
    giving_none (broker_ends 1 (map view c.args.controls.items)) (broker_ends domain (map view (into_iter_items c.loop-control.control-iterator))) c.loop-control.retired.items
    (ap (λ (l : List SeatedEnd). broker_ends domain (map view l)) over) c.loop-control.invariant.giving
