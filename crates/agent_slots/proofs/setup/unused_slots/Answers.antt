use Rattle.std.proofs.Common.{◌≡◌, List, [], ◌∷◌, ◌++◌, ap, sym, ◌∙◌, append_assoc, length, length-append, arith}
use Rattle.std.specs.Vec.Iter.{into_iter_items}
use Rattle.std.proofs.lemmas.Grind.{common_steps}
use Rattle.task_duties.specs.declared.ends.DataEnd.{DataEnd}
use Rattle.agent_slots.specs.declared.slot.Slot.{Slot}
use Rattle.agent_slots.specs.Given.{unused_slots, unused_slot}
use Rattle.agent_slots.proofs.FinishLaws.{append-nil}
use Rattle.agent_slots.proofs.setup.unused_slots.Goals as goal

pub loop-from-preserved : goal.loop-from-preserved
loop-from-preserved c =
    let rest = into_iter_items c.next.new.self in
    let slots = c.loop-from.slots.items in
    let known = c.loop-from.invariant in
    let d : DataEnd = c.in-Some.field-0 in
    let steps : into_iter_items c.loop-from.from-iterator ≡ d ∷ rest = c.in-Some.ensures.steps.0 in
    let items : c.push_reserved.new.self.items ≡ slots ++ unused_slot d ∷ [] = c.push_reserved.ensures.items in
    let on : List Slot → List Slot = λ xs. xs ++ unused_slots rest in
    let all : List DataEnd → List Slot = λ ds. slots ++ unused_slots ds in
    record {
      can_next = tt;
      is_finite = tt;
      filled = ap on items ∙ (append_assoc slots (unused_slot d ∷ []) (unused_slots rest) ∙ (ap all (sym steps) ∙ known.filled));
      room = omega (arith, known.room, ap length steps, ap length items, length-append slots (unused_slot d ∷ []), c.push_reserved.ensures.capacity);
    }

pub returns : goal.returns
returns c =
    let slots = c.loop-from.slots.items in
    let over : into_iter_items c.loop-from.from-iterator ≡ [] = grind (arith, common_steps) in
    let all : List DataEnd → List Slot = λ ds. slots ++ unused_slots ds in
    sym (append-nil slots) ∙ (ap all (sym over) ∙ c.loop-from.invariant.filled)
