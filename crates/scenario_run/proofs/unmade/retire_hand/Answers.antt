use Rattle.std.proofs.Common.{◌≡◌, ◌++◌, ◌∙◌, List, [], ◌∷◌, true, ap, length, sym, subst, arith}
use Rattle.std.specs.Vec.Iter.{into_iter_items}
use Rattle.std.proofs.lemmas.Grind.{common_steps}
use Rattle.std.specs.List.{AllByRecursion as Each}
use Rattle.vchan_rule.specs.Seated.{view}
use Rattle.task_duties.specs.declared.place.PagePlace.TheVariants.{Control}
use Rattle.task_duties.specs.declared.ends.DataEnd.{DataEnd}
use Rattle.task_duties.specs.TaskOwes.{all_ends}
use Rattle.task_duties.specs.GivenEnds.{all_given, fresh_view, given_at, retired_at}
use Rattle.scenario_run.proofs.UnmadeLaws.{IsGivingBack, all_idle, giving_first, giving_none, giving_on, same_end}
use Rattle.scenario_run.proofs.unmade.retire_hand.Goals as goal

pub retire_given-requires : goal.retire_given-requires
retire_given-requires c = (subst (λ (l : List DataEnd). Each (λ x. (fresh_view x.end).idle ≡ true) l) c.in-Some.ensures.steps.0 c.loop-given.invariant.idle).0

pub loop-given-init : goal.loop-given-init
loop-given-init c =
    let all : into_iter_items c.into_iter-given-iterator.result ≡ c.args.payload.items = c.into_iter-given-iterator.ensures.into_iter_gives.0 in
    let count : length (into_iter_items c.into_iter-given-iterator.result) ≡ length c.args.payload.items = ap length all in
    let given = all_ends c.args.domain (view c.args.control) (all_given c.args.payload.items) in
    let made : length c.push_reserved.new.self.items ≡ 1 = ap length (c.push_reserved.ensures.items ∙ ap (λ l. l ++ c.retire_control.result ∷ []) c.requires.empty) in record {
      idle = subst (λ (l : List DataEnd). Each (λ x. (fresh_view x.end).idle ≡ true) l) (sym all) (all_idle c.args.domain c.args.payload.items c.requires.given);
      room = (let room = c.requires.room in let same = c.push_reserved.ensures.capacity in omega (arith, count, made, room, same));
      giving = subst (λ (l : List DataEnd). IsGivingBack given (all_given l) c.push_reserved.new.self.items) (sym all)
          (giving_on given (all_given c.args.payload.items) (record { place = Control c.args.domain; view = view c.args.control }) c.args.retired.items c.push_reserved.new.self.items c.retire_control.result
          c.push_reserved.ensures.items c.retire_control.ensures.same c.retire_control.ensures.honest (giving_first given c.args.retired.items c.requires.empty));
    }

pub loop-given-preserved : goal.loop-given-preserved
loop-given-preserved c =
    let rest : into_iter_items c.loop-given.given-iterator ≡ c.in-Some.given ∷ into_iter_items c.next.new.self = c.in-Some.ensures.steps.0 in
    let given = all_ends c.args.domain (view c.args.control) (all_given c.args.payload.items) in record {
      idle = (subst (λ (l : List DataEnd). Each (λ x. (fresh_view x.end).idle ≡ true) l) rest c.loop-given.invariant.idle).1;
      room = grind (arith, common_steps);
      giving = giving_on given (all_given (into_iter_items c.next.new.self)) (given_at c.in-Some.given) c.loop-given.retired.items c.push_reserved-in-loop-given.new.self.items c.retire_given.result
          c.push_reserved-in-loop-given.ensures.items (same_end (given_at c.in-Some.given) (retired_at c.retire_given.result) c.retire_given.ensures.held) c.retire_given.ensures.honest
          (subst (λ (l : List DataEnd). IsGivingBack given (all_given l) c.loop-given.retired.items) rest c.loop-given.invariant.giving);
    }

pub returns : goal.returns
returns c =
    let over : into_iter_items c.loop-given.given-iterator ≡ [] = grind (arith, common_steps) in
    giving_none (all_ends c.args.domain (view c.args.control) (all_given c.args.payload.items)) (all_given (into_iter_items c.loop-given.given-iterator)) c.loop-given.retired.items
    (ap (λ (l : List DataEnd). all_given l) over) c.loop-given.invariant.giving
