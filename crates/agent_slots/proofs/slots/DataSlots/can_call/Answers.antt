use Rattle.std.proofs.Common.{ap, ◌∙◌}
use Rattle.task_duties.specs.declared.place.PagePlace.TheVariants.{Payload}
use Rattle.task_duties.specs.Places.{has_place}
use Rattle.agent_slots.specs.Slots.{SlotsState}
use Rattle.agent_slots.proofs.BeginLaws.{whole_of}
use Rattle.agent_slots.proofs.slots.DataSlots.can_call.Goals as goal

pub find_unused-requires-clause-whole : goal.find_unused-requires-clause-whole
find_unused-requires-clause-whole c = whole_of c.self.inside.ends _ _ c.self.view_is c.requires.whole c.self.invariant.3

pub returns : goal.returns
returns c = c.is_some.ensures ∙ (c.find_unused.ensures.there ∙ ap (λ (s : SlotsState). has_place (Payload s.domain c.args.to c.args.port) s.unused) c.self.view_is)
