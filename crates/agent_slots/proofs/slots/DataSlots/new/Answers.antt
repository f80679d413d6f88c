use Rattle.std.proofs.Common.{◌≡◌, ap, sym, ◌∙◌, subst, length, arith}
use Rattle.std.specs.List.{AllByRecursion as Each}
use Rattle.std.proofs.lemmas.List.{length-map}
use Rattle.task_duties.specs.TaskOwes.{places_in}
use Rattle.task_duties.specs.GivenEnds.{all_given}
use Rattle.agent_slots.specs.Stages.{CanRetire}
use Rattle.agent_slots.specs.Given.{unused_slot}
use Rattle.agent_slots.specs.Index.{IsIndexOf}
use Rattle.agent_slots.proofs.GivenLaws.{given_retire, made_whole, given_state}
use Rattle.agent_slots.proofs.slots.DataSlots.new.Goals as goal

pub invariant_of-result : goal.invariant_of-result
invariant_of-result c =
    let ends = c.args.ends.items in
    let many : length c.unused_slots.result.items ≡ length ends = ap length c.unused_slots.ensures ∙ length-map ends unused_slot in
    let room = c.in-Ok.ensures.retired in
    let indexed = subst (λ es. IsIndexOf (places_in (all_given es)) c.in-Ok.room.index) c.deref.ensures.value c.in-Ok.ensures.index in (
      subst (λ ss. Each (λ s. CanRetire s.stage) ss) (sym c.unused_slots.ensures) (given_retire c.args.domain ends c.requires.given),
      room.0,
      omega (arith, many, room.1, ap length c.deref.ensures.value),
      λ fine. made_whole c.args.domain c.args.version ends c.unused_slots.result.items c.in-Ok.room.index c.new.result.items c.in-Ok.room.calls.items c.args.calls c.new-2.result.items c.unused_slots.ensures c.new.ensures.items
          c.in-Ok.ensures.calls c.new-2.ensures.items c.requires.version c.requires.given indexed,
    )

pub returns-clause-made : goal.returns-clause-made
returns-clause-made c =
    given_state c.args.domain c.args.version c.args.ends.items c.unused_slots.result.items c.new.result.items c.in-Ok.room.calls.items c.args.calls c.new-2.result.items c.of.result.value c.unused_slots.ensures c.new.ensures.items
    c.in-Ok.ensures.calls c.new-2.ensures.items c.of.ensures
