use Rattle.std.proofs.Common.{subst}
use Rattle.agent_slots.specs.Agreeing.{Agrees}
use Rattle.agent_slots.proofs.AgreeLaws.{agrees}
use Rattle.agent_slots.proofs.BeginLaws.{whole_of, state_is}
use Rattle.agent_slots.proofs.slots.DataSlots.agree.Goals as goal

pub returns : goal.returns
returns c =
    let e = c.self.inside.ends in
    subst Agrees (state_is e _ _ c.self.view_is c.requires.whole) (agrees e (whole_of e _ _ c.self.view_is c.requires.whole c.self.invariant.3) c.self.invariant.0)
