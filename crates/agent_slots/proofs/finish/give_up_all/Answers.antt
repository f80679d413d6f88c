use Rattle.std.proofs.Common.{◌≡◌, ◌∷◌, [], ap, sym, subst, length, length-append, arith}
use Rattle.std.specs.Vec.Iter.{into_iter_items}
use Rattle.std.proofs.lemmas.Grind.{common_steps}
use Rattle.task_duties.specs.GivenEnds.{all_retired, retired_at}
use Rattle.agent_slots.proofs.FinishLaws.{AreRetiring, one_more, retired_more, retired_back}
use Rattle.agent_slots.proofs.finish.give_up_all.Goals as goal

pub loop-slot-preserved : goal.loop-slot-preserved
loop-slot-preserved c =
    let first = retired_at c.args.first in
    let all = c.args.slots.items in
    let known = c.loop-slot.invariant in
    let slot = c.in-Some.slot in
    let rest = into_iter_items c.next.new.self in
    let retired = c.loop-slot.retired.items in
    let steps : into_iter_items c.loop-slot.slot-iterator ≡ slot ∷ rest = c.in-Some.ensures.steps.0 in
    let x = c.give_up.result in
    let items = c.push_reserved-in-loop-slot.ensures.items in
    record {
      can_next = tt;
      is_finite = tt;
      retiring = subst (λ es. AreRetiring first all rest es) (sym (retired_more retired c.push_reserved-in-loop-slot.new.self.items x items))
          (one_more first all rest slot (all_retired retired) (retired_at x) c.give_up.ensures.held c.give_up.ensures.honest (subst (λ rs. AreRetiring first all rs (all_retired retired)) steps known.retiring));
      room = omega (arith, known.room, ap length steps, ap length items, length-append retired (x ∷ []), c.push_reserved-in-loop-slot.ensures.capacity);
    }

pub returns : goal.returns
returns c =
    let first = retired_at c.args.first in
    let all = c.args.slots.items in
    let retired = all_retired c.loop-slot.retired.items in
    let over : into_iter_items c.loop-slot.slot-iterator ≡ [] = grind (arith, common_steps) in
    retired_back first all retired (subst (λ rs. AreRetiring first all rs retired) over c.loop-slot.invariant.retiring)
