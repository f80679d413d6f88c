use Rattle.std.proofs.Common.{◌≡◌, ◌∷◌, ◌++◌, [], ap, sym, subst, length, length-append, arith}
use Rattle.std.specs.Vec.Iter.{into_iter_items}
use Rattle.std.proofs.lemmas.Grind.{common_steps}
use Rattle.task_duties.specs.GivenEnds.{all_retired, retired_at}
use Rattle.agent_slots.proofs.FinishLaws.{AreReporting, one_reported, all_reported, retired_more}
use Rattle.agent_slots.proofs.finish.finish_all.Goals as goal

pub loop-slot-preserved : goal.loop-slot-preserved
loop-slot-preserved c =
    let first = retired_at c.args.first in
    let all = c.args.slots.items in
    let known = c.loop-slot.invariant in
    let slot = c.in-Some.slot in
    let rest = into_iter_items c.next.new.self in
    let retired = c.loop-slot.retired.items in
    let reports = c.loop-slot.reports.items in
    let steps : into_iter_items c.loop-slot.slot-iterator ≡ slot ∷ rest = c.in-Some.ensures.steps.0 in
    let x = c.finish-end.result.0 in
    let r = c.finish-end.result.1 in
    let items = c.push_reserved-in-loop-slot.ensures.items in
    let told = c.push_reserved-in-loop-slot-2.ensures.items in
    record {
      can_next = tt;
      is_finite = tt;
      reporting = subst (λ es. AreReporting first all rest es c.push_reserved-in-loop-slot-2.new.self.items) (sym (retired_more retired c.push_reserved-in-loop-slot.new.self.items x items))
          (subst (λ rs. AreReporting first all rest (all_retired retired ++ retired_at x ∷ []) rs) (sym told)
          (one_reported first all rest slot (all_retired retired) reports (retired_at x) r c.finish-end.ensures.held c.finish-end.ensures.honest c.finish-end.ensures.report
          (subst (λ rs. AreReporting first all rs (all_retired retired) reports) steps known.reporting)));
      room = omega (arith, known.room, ap length steps, ap length items, length-append retired (x ∷ []), c.push_reserved-in-loop-slot.ensures.capacity);
      room_too = omega (arith, known.room_too, ap length steps, ap length told, length-append reports (r ∷ []), c.push_reserved-in-loop-slot-2.ensures.capacity);
    }

pub returns : goal.returns
returns c =
    let first = retired_at c.args.first in
    let all = c.args.slots.items in
    let retired = all_retired c.loop-slot.retired.items in
    let reports = c.loop-slot.reports.items in
    let over : into_iter_items c.loop-slot.slot-iterator ≡ [] = grind (arith, common_steps) in
    all_reported first all retired reports (subst (λ rs. AreReporting first all rs retired reports) over c.loop-slot.invariant.reporting)
