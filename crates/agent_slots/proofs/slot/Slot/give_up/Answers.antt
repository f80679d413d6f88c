use Rattle.task_duties.specs.declared.place.PagePlace.TheVariants.{Payload}
use Rattle.agent_slots.proofs.slot.Slot.give_up.Goals as goal

pub returns-clause-held : goal.returns-clause-held
returns-clause-held c = c.retired.ensures.held (Payload c.args.self.from c.args.self.to c.args.self.port)
